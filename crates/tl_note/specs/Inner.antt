-- Private words: what contracts of private functions and proofs need.
pub
    mod Judging
pub
    mod LineField
pub
    mod Signing
pub
    mod Reading
pub
    mod Law
