pub mod Turns
pub mod Judging
pub mod More
pub mod Strategies
