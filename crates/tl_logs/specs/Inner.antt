-- Words that only contracts of private functions and proofs need.
pub
    mod ByOrigin
pub
    mod Lines
pub
    mod Placing
pub
    mod Counting
pub
    mod Heads
pub
    mod OneLine
pub
    mod Stream
pub
    mod Listing
