pub mod lagged
