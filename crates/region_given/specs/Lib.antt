pub mod Given
pub mod Filing
