pub mod GraphFile
pub mod Samples
