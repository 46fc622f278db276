-- Definitions for the contracts of private functions and for proofs.
pub mod Cutting
pub mod Opening
