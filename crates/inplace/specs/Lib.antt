pub mod InPlace
pub mod Stored
