pub mod Person
pub mod Read
