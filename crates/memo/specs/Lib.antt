pub mod Cells
pub mod AtHand
