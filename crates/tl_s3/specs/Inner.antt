-- Definitions for the contracts of private functions and for proofs: the digits of an HTTP date.
pub
    mod Digits
pub
    mod Sendings
