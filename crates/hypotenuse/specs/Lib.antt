pub mod Hypot
pub mod Nearest
