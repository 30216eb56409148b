pub mod Comes
pub mod Visited
pub mod Walking
