mod SetExamples
mod Shown
pub mod Lists
pub mod Rows
pub mod Weighing
mod NumberExamples
mod PositionExamples
mod LineExamples
mod LongestPaths
mod Images
mod FamilyExamples
mod FaultExamples
mod HitExamples
mod ValueKinds
mod TreeLists
mod EdgeExamples
pub mod SameLeaves
pub mod SameSound
pub mod FlatSame
pub mod FlatHits
mod FlatExamples
pub mod FlatKept
pub mod FlatFacts
pub mod PlayedParts
pub mod UnplacedSame
pub mod TabledLines
