-- Definitions for the contracts of private functions and for proofs.
pub
    mod Outcomes
pub
    mod Puts
pub
    mod Searches
