pub mod States
pub mod Answers
pub mod Streamed
