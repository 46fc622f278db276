-- Words that only contracts of private functions and proofs need.
pub
    mod Above
pub
    mod CallLog
pub
    mod Making
pub
    mod Over
pub
    mod Staged
