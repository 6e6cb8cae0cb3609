pub mod Fill
pub mod Fronts
pub mod Lists
