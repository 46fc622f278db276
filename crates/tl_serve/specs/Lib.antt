-- The definitions of the commands that serve.
pub mod Asking
pub mod Knowing
pub mod Serving
pub mod Inner
