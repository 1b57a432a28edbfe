pub mod Views
pub mod Opening
pub mod Refusals
