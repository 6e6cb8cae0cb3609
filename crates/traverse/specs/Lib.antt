pub mod Contract
pub mod Open
pub mod Demand
pub mod Next
