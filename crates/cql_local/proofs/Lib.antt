pub mod Children
pub mod Cutting
pub mod Ended
pub mod Forms
pub mod Loops
pub mod Meeting
pub mod Seeking
