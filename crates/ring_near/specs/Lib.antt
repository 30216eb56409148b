pub mod Near
pub mod Least
