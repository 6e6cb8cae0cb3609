pub mod Table
pub mod Fan
pub mod LayoutRight
pub mod Levels
pub mod RowsPlace
pub mod RowsFind
pub mod Edges
