pub mod Monotone
pub mod Boxed
pub mod Alike
pub mod LeastOf
pub mod Walks
pub mod Between
pub mod GapExamples
