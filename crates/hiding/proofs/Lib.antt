pub mod Joined
pub mod Sets
pub mod Adding
pub mod Called
pub mod Instance
