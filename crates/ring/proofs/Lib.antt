pub mod Vertices
pub mod Starts
pub mod Sources
pub mod Storing
