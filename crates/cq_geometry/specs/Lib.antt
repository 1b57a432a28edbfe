pub mod Squares
pub mod Steps
pub mod Directions
pub mod Lines
pub mod Internal
