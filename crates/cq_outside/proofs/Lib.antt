pub mod Entries
pub mod GivenWords
pub mod Growth
pub mod Moves
