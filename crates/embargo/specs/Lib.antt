pub mod Embargo
pub mod Outside
pub mod Instance
pub mod Tested
