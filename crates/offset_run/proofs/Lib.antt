pub mod Found
pub mod OffsetByStages
pub mod Written
