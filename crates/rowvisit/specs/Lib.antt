pub mod Row
pub mod Numbers
pub mod Plain
