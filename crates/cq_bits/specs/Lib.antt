pub mod Sets
pub mod Internal
