pub mod Words
pub mod Stores
pub mod Margins
pub mod Boxes
pub mod Rows
