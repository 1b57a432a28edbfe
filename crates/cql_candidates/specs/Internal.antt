pub mod Designators
pub mod SquareCuts
