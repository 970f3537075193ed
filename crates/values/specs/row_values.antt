pub mod Reads
pub mod Waves
pub mod Given
pub mod Boxes
