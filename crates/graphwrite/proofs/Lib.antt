pub mod Measured
pub mod Laid
