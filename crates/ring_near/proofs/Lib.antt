pub mod Rounded
pub mod Clear
pub mod Leads
pub mod Least
