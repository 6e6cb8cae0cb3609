pub mod Told
pub mod ParentsPlace
pub mod Agree
pub mod ByHeader
pub mod Forward
