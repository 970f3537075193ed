pub mod Geometry
pub mod Messages
pub mod Shaped
pub mod Hops
pub mod Box
pub mod Loops
