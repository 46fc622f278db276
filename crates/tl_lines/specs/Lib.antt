pub mod Dealt
pub mod Inner
pub mod Lines
pub mod Reading
