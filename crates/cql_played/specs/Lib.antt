pub mod Led
pub mod Captures
