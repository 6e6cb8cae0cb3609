pub mod NoRoom
pub mod Traces
