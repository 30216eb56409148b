pub mod Turns
pub mod Digits
pub mod Filters
pub mod Laws
pub mod Examples
