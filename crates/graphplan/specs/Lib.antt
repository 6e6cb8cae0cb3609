pub mod StoreRows
pub mod Entries
pub mod Refusing
