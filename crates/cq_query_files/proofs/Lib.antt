pub mod Sinks
mod Texts
mod OneOutcome
pub mod EveryText
mod Pieces
pub mod PiecesRead
mod QueryFiles
mod FileLaws
pub mod Opening
