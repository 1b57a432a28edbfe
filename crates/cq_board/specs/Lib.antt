pub mod Draws
pub mod Views
pub mod Seats
