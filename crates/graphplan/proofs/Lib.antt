pub mod Heads
pub mod RowLaws
pub mod Planning
pub mod Fans
pub mod Wides
pub mod StoreLinks
