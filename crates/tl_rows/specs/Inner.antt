-- Definitions that only contracts of private functions and proofs need.
pub
    mod Kept
