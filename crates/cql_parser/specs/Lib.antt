pub mod PartialFilters
pub mod Faults
pub mod Grammar
pub mod Productions
pub mod RuleStates
pub mod Texts
pub mod Internal
