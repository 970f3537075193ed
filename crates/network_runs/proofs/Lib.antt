pub mod Neighbours
pub mod AsNetwork
pub mod Demands
pub mod part
pub mod Boards
pub mod Owners
pub mod BoardExamples
