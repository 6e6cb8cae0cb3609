pub mod Game
pub mod Strategy
pub mod Remembered
