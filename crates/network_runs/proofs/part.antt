pub mod OnePart
pub mod Collecting
pub mod Steps
pub mod Demands
pub mod PartTold
