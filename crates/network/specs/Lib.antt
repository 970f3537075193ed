pub mod Apart
pub mod Transport
pub mod Packets
pub mod Locality
pub mod Own
pub mod PartRuns
pub mod Brought
pub mod OnBoards
