-- Definitions that only contracts of private functions and proofs need.
pub
    mod Compacting
pub mod Keys
