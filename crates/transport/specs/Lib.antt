pub mod Calls
pub mod Given
pub mod Holds
pub mod MailExamples
pub mod arrivals
pub mod TakeInExamples
pub mod AwaitedExamples
