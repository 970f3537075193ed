pub mod Turns
pub mod Lines
pub mod Reading
pub mod AsSteps
pub mod AsRuns
pub mod Begins
pub mod Demands
pub mod Exact
