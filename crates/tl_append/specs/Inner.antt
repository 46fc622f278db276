-- Definitions for the contracts of private functions and for proofs.
pub
    mod Due
pub
    mod Faults
pub
    mod Owing
pub
    mod Proposals
pub
    mod Shedding
pub
    mod Turns
pub
    mod Under
