pub mod Device
pub mod Faults
pub mod ReadWhole
pub mod Inner
pub mod Pieces
pub mod Reading
