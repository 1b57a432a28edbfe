pub mod PairRuns
pub mod SettledLexemes
pub mod WordRuns
