pub mod Writes
pub mod Direct
