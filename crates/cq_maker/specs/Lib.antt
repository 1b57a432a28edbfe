pub mod Draws
pub mod Line
pub mod GeneratedArchive
pub mod Internal
