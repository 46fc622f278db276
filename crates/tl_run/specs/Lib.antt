-- The definitions of a run.
pub mod Faults
pub mod Run
pub mod Origins
pub mod Keys
pub mod Signing
