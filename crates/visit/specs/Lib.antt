pub mod Taking
pub mod Plain
