pub mod Marker
pub mod Split
