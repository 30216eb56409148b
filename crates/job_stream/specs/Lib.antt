pub mod Feeding
pub mod Progress
