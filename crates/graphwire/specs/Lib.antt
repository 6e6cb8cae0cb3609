pub mod Wire
pub mod Seen
