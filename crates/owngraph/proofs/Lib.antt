pub mod Agree
pub mod Small
pub mod Passed
pub mod Instance
