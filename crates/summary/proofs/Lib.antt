pub mod Answers
pub mod Ones
pub mod Examples
pub mod HopsTold
