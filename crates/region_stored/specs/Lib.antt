pub mod Stored
pub mod AsOutlines
pub mod Rewritten
