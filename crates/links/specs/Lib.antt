pub mod Link
pub mod Visits
pub mod Leaving
