pub mod Taking
pub mod Fresh
pub mod Taken
pub mod Steps
pub mod Decided
pub mod AllTests
