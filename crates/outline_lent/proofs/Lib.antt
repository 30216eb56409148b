pub mod Numbers
pub mod Asked
pub mod Written
pub mod Straight
pub mod Unstored
