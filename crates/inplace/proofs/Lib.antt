pub mod InPlace
pub mod Bodies
