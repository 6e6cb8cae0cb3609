pub mod Counts
pub mod Places
pub mod Terms
pub mod Demand
