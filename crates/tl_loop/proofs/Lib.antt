pub mod Faults
pub mod Ordered
