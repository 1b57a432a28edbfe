pub mod Verdicts
pub mod Replacements
pub mod Needs
pub mod NeedsExamples
pub mod Plans
pub mod RowKeys
pub mod Internal
