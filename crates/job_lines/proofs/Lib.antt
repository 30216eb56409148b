pub mod Writable
pub mod LineAnswered
pub mod Puts
pub mod BlockByLines
pub mod Ends
