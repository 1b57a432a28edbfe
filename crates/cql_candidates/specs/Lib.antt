pub mod NameAttacks
pub mod Classes
pub mod Covers
pub mod Occupancy
pub mod MoveTargets
pub mod Pairs
pub mod Promoting
pub mod Internal
