pub mod BatchRefusal
pub mod ByBatches
pub mod Writing
pub mod ManyWriting
pub mod Visits
