pub mod Ring
pub mod Store
