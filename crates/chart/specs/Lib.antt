pub mod Call
pub mod Apart
pub mod Longest
pub mod grid_text
pub mod Examples
