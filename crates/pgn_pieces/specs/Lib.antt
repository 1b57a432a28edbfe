pub mod Pieces
pub mod Table
pub mod State
pub mod Apart
pub mod Cutting
pub mod Jobs
pub mod Line
pub mod Promise
