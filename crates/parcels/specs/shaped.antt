pub mod Runs
pub mod Parcels
