pub mod Drawn
pub mod Nodes
pub mod Plies
pub mod Games
pub mod Short
pub mod Whole
pub mod Back
mod Rows
