pub mod Lowest
pub mod ParentCells
