pub mod Checks
pub mod Answering
pub mod MoreTraces
