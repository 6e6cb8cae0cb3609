pub mod Pieces
pub mod Chunks
pub mod Parents
pub mod Read
