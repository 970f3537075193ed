pub mod Decimal
pub mod Writing
pub mod Grid
pub mod Denotes
