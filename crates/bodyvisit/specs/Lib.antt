pub mod Body
pub mod InPlace
