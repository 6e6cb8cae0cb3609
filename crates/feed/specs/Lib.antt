pub mod Feed
pub mod Passing
