-- The definitions of rows of steps.
pub mod Inner
