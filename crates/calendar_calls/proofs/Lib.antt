pub mod Lines
pub mod AsRuns
pub mod Mixed
pub mod Demands
pub mod OpensExamples
