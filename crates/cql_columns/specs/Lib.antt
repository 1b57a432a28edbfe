pub mod SquareTrials
pub mod Columns
pub mod Costs
pub mod FlatTrees
pub mod Scopes
