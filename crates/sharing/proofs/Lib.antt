pub mod Tests
pub mod Lines
pub mod Starts
pub mod AsRuns
pub mod Words
pub mod Demands
pub mod ViewExamples
