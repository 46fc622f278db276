pub mod Rings
pub mod Merges
pub mod Places
pub mod Logs
pub mod Openings
pub mod Keeps
pub mod Held
