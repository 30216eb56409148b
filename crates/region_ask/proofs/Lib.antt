pub mod Feet
pub mod Whole
pub mod Both
