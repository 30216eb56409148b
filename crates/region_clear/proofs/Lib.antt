pub mod Points
pub mod Pairs
pub mod FirstNotClear
