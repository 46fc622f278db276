-- Words that only contracts of private functions and proofs need.
pub
    mod Growing
pub
    mod Leaves
pub
    mod BundleFaults
