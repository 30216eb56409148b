pub mod Checked
pub mod Outlines
pub mod GivenRings
