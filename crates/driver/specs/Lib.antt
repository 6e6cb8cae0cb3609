pub mod Walked
pub mod Says
