pub mod Product
pub mod Most
pub mod Laws
pub mod Lines
pub mod DriveExamples
