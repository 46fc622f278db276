-- The definitions of what a running log does next.
pub mod PublishLoop
pub mod Order
