pub mod SlotRounds
