pub mod Takes
pub mod Heads
pub mod Parses
pub mod Held
pub mod Tails
pub mod Shifts
pub mod Jobs
pub mod Enough
