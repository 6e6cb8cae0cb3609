pub mod Ahead
pub mod Merges
pub mod Inserts
pub mod RunsMerged
pub mod Pushing
pub mod Popping
pub mod ByIds
pub mod Laws
