pub mod Bitboards
pub mod Sets
pub mod Planes
