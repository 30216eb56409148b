pub mod OneLine
pub mod Promises
