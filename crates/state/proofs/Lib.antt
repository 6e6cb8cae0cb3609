pub mod Entries
pub mod Shapes
pub mod States
pub mod Seeing
pub mod Queueing
pub mod Popping
pub mod Starting
