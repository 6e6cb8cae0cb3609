pub mod Table
pub mod Days
pub mod Rising
pub mod OneTerm
pub mod Lists
pub mod Begins
pub mod Instances
