-- Words that only contracts of private functions and proofs need.
pub
    mod Ahead
pub
    mod Asking
pub
    mod Authorities
