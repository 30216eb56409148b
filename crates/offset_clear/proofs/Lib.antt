pub mod Folds
pub mod FirstShort
pub mod Feet
