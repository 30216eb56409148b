pub mod Sums
pub mod Stores
pub mod Rings
