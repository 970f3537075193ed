pub mod Table
pub mod Lines
pub mod Moves
