pub mod Within
pub mod Remembered
