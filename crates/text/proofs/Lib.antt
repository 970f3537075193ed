pub mod Decimals
pub mod Digits
pub mod Pens
pub mod Steps
pub mod Example
pub mod Denotes
