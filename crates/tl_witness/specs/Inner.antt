-- Words that only contracts of private functions and proofs need.
pub
    mod PutsOrigin
pub
    mod ChainFields
pub
    mod Finding
pub
    mod Offer
pub
    mod ReadSigned
pub
    mod Outcome
pub
    mod Laws
