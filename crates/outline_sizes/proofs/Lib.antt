pub mod Paired
pub mod Finite
pub mod ClearanceLaws
