pub mod Bests
pub mod Firsts
pub mod Choosing
pub mod Chosen
