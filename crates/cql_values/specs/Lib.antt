pub mod FilterForms
pub mod FilterValues
pub mod Bindings
pub mod Counts
pub mod Names
pub mod ValueModel
pub mod Trees
pub mod Internal
