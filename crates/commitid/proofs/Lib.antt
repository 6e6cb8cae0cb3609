pub mod Digits
pub mod Vectors
pub mod Widths
