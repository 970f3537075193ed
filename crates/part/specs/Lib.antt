pub mod Part
pub mod Marking
