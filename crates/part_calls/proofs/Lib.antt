pub mod Answers
pub mod PartExamples
pub mod PartNumbers
pub mod Collecting
pub mod Rows
