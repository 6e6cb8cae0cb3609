pub mod Messages
pub mod Splitting
pub mod Passing
pub mod Numbers
pub mod Small
pub mod Instances
