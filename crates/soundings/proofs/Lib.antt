pub mod Best
pub mod Sifting
pub mod Returns
pub mod Examples
