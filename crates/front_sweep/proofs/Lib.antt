pub mod Stages
pub mod Loop
pub mod Holds
