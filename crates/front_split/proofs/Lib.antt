pub mod FreeSlots
pub mod Parts
