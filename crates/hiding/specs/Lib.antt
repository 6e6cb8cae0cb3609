pub mod Hiding
pub mod Called
pub mod Runs
