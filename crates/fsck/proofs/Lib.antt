pub mod Entries
pub mod Checksum
pub mod Steps
pub mod Told
