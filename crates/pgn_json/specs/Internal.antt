pub mod Bytes
pub mod Remaining
pub mod PartTexts
pub mod Pages
pub mod Parts
pub mod Texts
