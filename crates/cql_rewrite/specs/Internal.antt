pub mod DistinctMembers
pub mod Sums
