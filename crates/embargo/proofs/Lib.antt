pub mod Heads
pub mod Stores
pub mod Worlds
pub mod Walks
pub mod Called
pub mod Reports
pub mod Tested
pub mod Instance
