pub mod Drawing
pub mod Increasing
pub mod Totals
pub mod Steps
pub mod Dealing
