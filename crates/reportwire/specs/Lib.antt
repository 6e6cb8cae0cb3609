pub mod Feed
pub mod Terms
