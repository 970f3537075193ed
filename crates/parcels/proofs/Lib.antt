pub mod Walks
pub mod Packing
pub mod Windows
pub mod Rows
pub mod Alike
pub mod Sendings
pub mod Twins
