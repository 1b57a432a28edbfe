pub mod Candidates
pub mod MovesSought
pub mod NodeValues
