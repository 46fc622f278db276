pub mod Text
pub mod Pieces
pub mod Base64
pub mod Inner
