pub mod Greatest
pub mod Refusals
pub mod Spelling
pub mod Text
pub mod Walks
pub mod Range
