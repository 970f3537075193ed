pub mod Calls
pub mod Given
