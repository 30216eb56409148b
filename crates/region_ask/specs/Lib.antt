pub mod Reads
pub mod Boundary
