pub mod Following
pub mod Preorder
pub mod Nested
pub mod Trees
pub mod Ancestors
pub mod Comments
pub mod Paths
mod GameRows
mod LegalRows
mod Rows
pub mod Equality
pub mod Joined
pub mod Kings
pub mod Legality
pub mod Marked
pub mod Attackers
pub mod Numbers
pub mod Placed
pub mod RankTexts
pub mod Ranks
pub mod RoundTrip
pub mod Splitting
pub mod Shields
pub mod Whole
pub mod Digits
pub mod Counts
pub mod Listed
pub mod WaysUp
