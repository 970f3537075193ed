pub mod Runs
pub mod Found
pub mod Rows
pub mod Listing
