-- Definitions for the contracts of private functions and for proofs.
pub
    mod Sending
pub
    mod Deciding
pub
    mod Fields
pub
    mod Bodies
pub
    mod Posts
pub
    mod Places
pub
    mod Opening
