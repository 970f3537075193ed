pub mod Routes
pub mod Given
