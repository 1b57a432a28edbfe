pub mod Frames
pub mod Machine
pub mod TreeBuilder
pub mod ParserStates
pub mod Models
