pub mod Comparing
pub mod Finders
pub mod GameRows
pub mod WorkerAnswers
