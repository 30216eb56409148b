pub mod Reach
pub mod Stores
pub mod Tests
pub mod Asked
pub mod Good
pub mod Outlines
