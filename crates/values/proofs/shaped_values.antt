pub mod Runs
pub mod Stores
pub mod Words
