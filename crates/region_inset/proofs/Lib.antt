pub mod PiecesFound
pub mod InsetIs
