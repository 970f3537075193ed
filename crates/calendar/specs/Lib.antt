pub mod Windows
pub mod Demands212
pub mod Waits
pub mod AnyCalls
pub mod Fit
