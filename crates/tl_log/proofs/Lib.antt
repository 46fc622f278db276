pub mod Needs
pub mod Bundles
