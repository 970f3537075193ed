pub mod Twins
pub mod Windows
pub mod Sendings
pub mod shaped
