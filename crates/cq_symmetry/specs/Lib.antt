pub mod Families
pub mod Images
pub mod Mappings
pub mod Parts
