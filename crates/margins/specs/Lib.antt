pub mod Far
pub mod Examples
