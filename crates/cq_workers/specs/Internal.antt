pub mod WorkerStates
pub mod Starts
