pub mod Exits
pub mod Reach
pub mod Sound
pub mod Widths
pub mod Door
pub mod DoorExamples
