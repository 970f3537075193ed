pub mod Tells
pub mod View
pub mod Opens
pub mod Demand211
pub mod DriverWords
pub mod PartTurn
pub mod Stores
