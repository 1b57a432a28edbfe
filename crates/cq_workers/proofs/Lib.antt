pub mod Counting
pub mod WorkerDraws
pub mod Makings
mod OneByOne
