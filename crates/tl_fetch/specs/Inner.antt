-- Definitions that only contracts of private functions and proofs need.
pub
    mod Judging
pub
    mod Trusted
pub
    mod Freshness
pub
    mod Naming
pub
    mod FeedRuns
pub
    mod Ahead
pub
    mod LogKeys
pub
    mod Witnesses
pub
    mod Late
