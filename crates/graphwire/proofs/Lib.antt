pub mod NoRoom
pub mod Calls
pub mod Seen
