pub mod Passes
pub mod Whole
pub mod Instances
pub mod Ahead
