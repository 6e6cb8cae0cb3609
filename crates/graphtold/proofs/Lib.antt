pub mod Counting
pub mod Unfit
pub mod Right
pub mod Same
pub mod There
