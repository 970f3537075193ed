pub mod Kept
pub mod After
pub mod Working
pub mod Stage
pub mod Turned
