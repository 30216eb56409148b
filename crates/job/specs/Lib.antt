pub mod Jobs
pub mod Counted
pub mod AnswerLines
pub mod Stream
pub mod Table
pub mod Opened
pub mod Sizes
