pub mod InPart
pub mod RowsIn
pub mod Tiles
