pub mod OtherNodes
pub mod LineAtoms
pub mod SpelledParts
pub mod Trees
pub mod Internal
