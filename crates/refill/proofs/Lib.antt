pub mod Lists
pub mod Rereading
pub mod Draining
pub mod Refilling
pub mod Ending
