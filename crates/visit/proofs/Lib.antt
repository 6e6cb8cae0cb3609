pub mod Past
pub mod Takings
