pub mod Back
pub mod FirstBytes
pub mod InPlace
