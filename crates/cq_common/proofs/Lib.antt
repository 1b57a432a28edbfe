pub mod Digits
pub mod GreatestLaw
pub mod Refused
pub mod SpellingLaw
pub mod WithinLaw
