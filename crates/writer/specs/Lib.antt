pub mod Fields
pub mod Tables
pub mod Writing
pub mod Demand202
pub mod Told
