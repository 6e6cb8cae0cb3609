pub mod Months
pub mod Table
pub mod Terms
pub mod Search
