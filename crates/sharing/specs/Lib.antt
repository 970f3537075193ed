pub mod Calls
pub mod Given
pub mod Demands
pub mod view
pub mod ViewExamples
