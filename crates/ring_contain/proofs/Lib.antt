pub mod Skipped
pub mod Found
pub mod Exact
