pub mod OneMore
pub mod Ended
pub mod Turns
pub mod DriveSaid
pub mod Whole
