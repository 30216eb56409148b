pub mod Small
pub mod Found
pub mod Dropped
pub mod TidyRounds
