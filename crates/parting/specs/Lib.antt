pub mod Best
pub mod First
pub mod Choice
pub mod Searched
