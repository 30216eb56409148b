pub mod Margin
pub mod Lent
pub mod Drawn
pub mod Jobs
pub mod Meeting
pub mod Hairlines
