pub mod Painted
pub mod Inner
