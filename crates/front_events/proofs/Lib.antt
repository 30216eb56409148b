pub mod Leaves
pub mod Search
pub mod SearchRounds
pub mod Used
