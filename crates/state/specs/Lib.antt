pub mod Reads
pub mod Shapes
pub mod Steps
