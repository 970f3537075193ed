pub mod row_values
pub mod shaped_values
