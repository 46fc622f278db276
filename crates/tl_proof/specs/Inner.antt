-- Private words: what contracts of private functions and proofs need.
pub
    mod Forks
pub
    mod ManyPaths
pub
    mod Segments
pub
    mod Laws
