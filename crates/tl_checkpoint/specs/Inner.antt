-- Private words: what contracts of private functions and proofs need.
pub
    mod Cosigning
pub
    mod CutLines
pub
    mod Keeping
pub
    mod Law
