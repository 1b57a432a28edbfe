pub mod Members
pub mod Union
pub mod Betweens
pub mod OnSquares
pub mod Outward
pub mod Gathering
