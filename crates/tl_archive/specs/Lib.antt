-- The definitions of shelves.
pub mod Shelves
pub mod Partials
pub mod Complete
pub mod Inner
