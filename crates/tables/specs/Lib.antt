pub mod Tables
pub mod scans
pub mod boxes
pub mod shaped_table
pub mod Given
