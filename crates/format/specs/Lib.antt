pub mod Numerals
pub mod Fields
pub mod Lines
pub mod JobLines
pub mod Texts
