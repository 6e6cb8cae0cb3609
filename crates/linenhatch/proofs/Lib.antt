pub mod NoRoom
pub mod Opens
pub mod Calls
pub mod Behind
pub mod Listing
pub mod Tested
