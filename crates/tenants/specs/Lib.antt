pub mod Tenants
pub mod Demand208
pub mod Fit
pub mod AnyCalls
