pub mod Fills
pub mod Streams
pub mod Covers
pub mod Apart
pub mod Cuts
pub mod Numbers
pub mod Promised
pub mod Refusals
