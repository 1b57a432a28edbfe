pub mod Bindings
pub mod Trials
