pub mod Parting
pub mod Exactly
pub mod Call
pub mod Memory
