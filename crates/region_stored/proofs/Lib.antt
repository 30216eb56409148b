pub mod Walks
pub mod Again
pub mod AsOutlines
pub mod AsStored
pub mod Rewritten
