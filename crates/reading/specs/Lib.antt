pub mod Files
pub mod Tip
pub mod Row
pub mod Body
pub mod Whole
pub mod Stored
