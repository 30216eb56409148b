pub mod Planning
pub mod Acts
