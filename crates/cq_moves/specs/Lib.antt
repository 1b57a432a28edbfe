pub mod LegalMoves
pub mod Mate
pub mod Candidates
pub mod Internal
