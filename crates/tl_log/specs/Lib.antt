pub mod Histories
pub mod Resources
pub mod Pieces
pub mod Checkpoints
