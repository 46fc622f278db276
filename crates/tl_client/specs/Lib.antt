pub mod Faults
pub mod Bundles
pub mod Blame
pub mod Checked
pub mod Refused
pub mod Trusted
pub mod Inner
