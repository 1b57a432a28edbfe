pub mod Places
pub mod Rectangles
pub mod Parts
pub mod Longest
pub mod Groups
pub mod Fronts
pub mod Designating
pub mod Whole
pub mod Marks
mod Rows
pub mod Steps
pub mod Designated
pub mod Ends
pub mod ReadOnce
