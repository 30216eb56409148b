pub mod Gap
pub mod GapExamples
pub mod Blocks
pub mod Between
