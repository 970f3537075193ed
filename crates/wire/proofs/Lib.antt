pub mod Sending
pub mod Receiving
pub mod Carried
