pub mod Those
pub mod Ordered
pub mod Going
pub mod Alike
pub mod Begun
pub mod Lists
pub mod Kept
pub mod Called
