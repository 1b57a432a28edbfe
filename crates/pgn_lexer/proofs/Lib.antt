pub mod Apart
pub mod Bodies
pub mod Ended
pub mod Fronts
pub mod Lists
pub mod Local
pub mod Places
pub mod Longest
mod Rows
pub mod Settled
pub mod Spelled
pub mod Tables
pub mod Texts
pub mod Walk
pub mod Within
