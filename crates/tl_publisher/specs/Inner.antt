-- Words that only contracts of private functions and proofs need.
pub
    mod Needs
pub
    mod Noting
pub
    mod Opening
pub
    mod Publications
pub
    mod Requiring
pub
    mod Resuming
pub
    mod Attaching
