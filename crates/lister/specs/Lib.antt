pub mod Walked
pub mod Says
pub mod Demand
