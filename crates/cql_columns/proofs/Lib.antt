pub mod Chains
pub mod Costing
pub mod Filling
pub mod FindLaw
pub mod Keeping
pub mod Wanting
