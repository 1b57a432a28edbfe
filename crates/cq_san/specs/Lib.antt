pub mod Spelling
pub mod ParseFromEnd
pub mod Fits
pub mod Reading
pub mod San
pub mod Writing
pub mod Signs
pub mod Internal
