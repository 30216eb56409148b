pub mod Laws
pub mod Choices
pub mod Tests
pub mod Elements
pub mod Sums
pub mod Lists
pub mod Occurrences
