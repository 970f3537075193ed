pub mod Passes
pub mod Whole
pub mod Steps
