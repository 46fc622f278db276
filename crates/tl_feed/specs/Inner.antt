-- Definitions for the contracts of private functions and for proofs.
pub
    mod Answered
pub
    mod Pausing
pub
    mod Tallying
