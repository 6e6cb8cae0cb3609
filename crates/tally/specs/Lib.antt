pub mod Feeds
pub mod Terms
pub mod Tally
