pub mod Chains
pub mod Listing
pub mod Whole
pub mod Laws
pub mod Called
pub mod Telling
pub mod Demands
pub mod Examples
