pub mod Stored
pub mod Reader
pub mod Store
pub mod Head
pub mod Inner
