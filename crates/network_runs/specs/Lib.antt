pub mod Calls
pub mod Neighbours
pub mod Demands
pub mod part
pub mod Boards
pub mod Owners
pub mod BoardExamples
