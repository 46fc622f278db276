-- Logs that grow on a shelf.
pub mod Appending
pub mod Cosigning
pub mod Faults
pub mod Keys
pub mod Proposing
pub mod Running
pub mod Inner
