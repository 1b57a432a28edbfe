pub mod Status
pub mod Views
pub mod Opening
pub mod Call
pub mod Usage
pub mod Ends
