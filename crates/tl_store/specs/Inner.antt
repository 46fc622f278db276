-- Private words: what contracts of private functions and proofs need.
pub
    mod Subtrees
pub
    mod Adds
pub
    mod Quads
