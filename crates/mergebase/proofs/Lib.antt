pub mod Early
pub mod Partings
pub mod OneAnswer
pub mod SameForAll
pub mod Call
