pub mod Board
pub mod Tables
pub mod Back
pub mod Neighbors
pub mod Inside
pub mod Rays
pub mod Slides
pub mod Seen
mod Rows
