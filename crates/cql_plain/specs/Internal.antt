pub mod LineParts
pub mod Members
pub mod Paths
pub mod PatternEnds
pub mod Scopes
