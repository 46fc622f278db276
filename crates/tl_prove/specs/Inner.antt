-- Private words: what contracts of private functions and proofs need.
pub
    mod Proving
