pub mod Cells
pub mod Parents
