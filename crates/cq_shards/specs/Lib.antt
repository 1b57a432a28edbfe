pub mod PlanQuery
pub mod ReadResults
pub mod Order
pub mod OrderExamples
pub mod Answers
pub mod Many
pub mod FirstMatch
pub mod Internal
