pub mod FirstState
pub mod Ready
pub mod Kept
pub mod Finish
pub mod First
