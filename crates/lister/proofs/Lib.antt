pub mod SetDown
pub mod OneMore
pub mod Refusals
pub mod Ids
pub mod ListSaid
pub mod Demanded
