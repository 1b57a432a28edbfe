pub mod Games
pub mod Queries
