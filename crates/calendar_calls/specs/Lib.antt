pub mod Calls
pub mod Given
pub mod Demands
pub mod OpensExamples
