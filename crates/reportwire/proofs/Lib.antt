pub mod NoRoom
pub mod Feeding
pub mod Counting
