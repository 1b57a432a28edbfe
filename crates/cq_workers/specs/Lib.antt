pub mod Outputs
pub mod NumberedOutputs
pub mod Internal
