pub mod Given
pub mod Index
pub mod Calls
pub mod Demands
pub mod Examples
