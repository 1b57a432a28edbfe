pub mod Status
pub mod Views
pub mod Queries
pub mod QueryFiles
pub mod Files
pub mod Lines
pub mod QueryReading
