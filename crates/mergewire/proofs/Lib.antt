pub mod NoRoom
pub mod Parts
