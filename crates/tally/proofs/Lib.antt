pub mod Few
pub mod Counting
pub mod Steps
