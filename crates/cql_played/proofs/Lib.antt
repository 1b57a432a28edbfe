pub mod Goals
pub mod Taken
