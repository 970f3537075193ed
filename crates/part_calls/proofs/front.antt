pub mod Part
pub mod Wide
pub mod Front
pub mod Answers
