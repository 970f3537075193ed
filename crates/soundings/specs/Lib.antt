pub mod Soundings
pub mod Ground
pub mod Sifting
pub mod Examples
