-- Private words: what contracts of private functions and proofs need.
pub
    mod Cutting
pub
    mod Outcomes
pub
    mod Drafts
pub
    mod Trusting
pub
    mod Told
