pub mod Checks
pub mod Walks
pub mod Door
pub mod DoorExamples
