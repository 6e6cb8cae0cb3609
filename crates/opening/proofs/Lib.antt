pub mod Ids
pub mod Input
pub mod Tips
pub mod Opened
