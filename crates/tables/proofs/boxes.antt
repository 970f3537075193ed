pub mod Scans
pub mod Ends
pub mod Runs
