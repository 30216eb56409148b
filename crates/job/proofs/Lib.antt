pub mod Below
pub mod Refused
pub mod Counted
pub mod Stream
pub mod AnswerStart
pub mod Table
pub mod Sizes
