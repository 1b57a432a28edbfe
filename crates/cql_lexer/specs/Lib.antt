pub mod Characters
pub mod Designators
pub mod Lexemes
pub mod Longest
pub mod Tokens
