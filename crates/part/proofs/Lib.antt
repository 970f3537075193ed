pub mod Words
pub mod Slots
pub mod Handling
pub mod Chains
pub mod Rows
pub mod Owned
pub mod Brought
