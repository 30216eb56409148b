pub mod Contains
pub mod Exact
