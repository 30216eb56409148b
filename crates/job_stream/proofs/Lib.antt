pub mod Machine
pub mod Behind
pub mod Parts
pub mod Progress
