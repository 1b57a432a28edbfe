pub mod FirstNodes
pub mod Reading
