pub mod Counts
pub mod Places
pub mod First
pub mod Counted
pub mod TermsSaid
pub mod Adding
pub mod Demanded
