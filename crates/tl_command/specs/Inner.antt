-- Definitions that only contracts of private functions and proofs need.
pub
    mod Answers
pub
    mod Checks
pub
    mod Shown
pub
    mod Growing
pub
    mod Texts
pub
    mod Notes
pub
    mod Steps
pub
    mod Cuts
pub
    mod Subproofs
pub
    mod BundleLengths
pub
    mod Measuring
pub
    mod Cosigned
