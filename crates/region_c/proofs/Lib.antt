pub mod Made
pub mod Counted
