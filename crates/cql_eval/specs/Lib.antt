pub mod AtomsAround
pub mod Hits
pub mod Internal
