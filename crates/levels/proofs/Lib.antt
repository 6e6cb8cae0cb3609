pub mod Rules
pub mod Sums
pub mod Moves
pub mod Turning
pub mod Whole
pub mod Facts
pub mod Lines
pub mod Stored
