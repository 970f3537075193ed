pub mod Given
pub mod PartExamples
pub mod PartNumbers
pub mod front
pub mod tile
pub mod turn
