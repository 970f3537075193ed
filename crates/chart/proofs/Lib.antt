pub mod Splits
pub mod Apart
pub mod Answers
pub mod Longest
pub mod Examples
