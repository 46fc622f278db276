-- Words that only contracts of private functions and proofs need.
pub
    mod Pieces
pub
    mod Laws
