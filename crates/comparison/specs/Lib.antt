pub mod Agreement
pub mod Lines
pub mod DriveExamples
pub mod drive
