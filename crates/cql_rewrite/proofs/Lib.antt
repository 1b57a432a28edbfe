pub mod Made
pub mod PlayedRolled
pub mod Meant
pub mod Rows
pub mod Placed
pub mod SamePlayedParts
pub mod Texts
pub mod Pairs
