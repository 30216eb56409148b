pub mod Gaps
pub mod Rings
