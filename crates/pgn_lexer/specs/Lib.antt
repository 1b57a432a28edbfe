pub mod Bytes
pub mod Grammar
pub mod Lexemes
pub mod Locality
pub mod Readings
pub mod PlacedLexemes
pub mod Texts
pub mod SingleLexeme
