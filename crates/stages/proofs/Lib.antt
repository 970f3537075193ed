pub mod Parts
pub mod Stages
pub mod Collecting
pub mod Shapes
