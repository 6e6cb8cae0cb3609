pub mod Library
pub mod Listing
