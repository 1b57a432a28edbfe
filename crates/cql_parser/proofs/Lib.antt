mod Answer
mod Begun
mod Ends
mod Exits
mod Faults
mod Frames
mod Limits
mod NoAny
mod TreeBuilder
mod Read
mod Reading
mod Rows
mod ReadIsWritten
pub mod Texts
