pub mod Needs
pub mod Stays
pub mod Lists
pub mod Ways
