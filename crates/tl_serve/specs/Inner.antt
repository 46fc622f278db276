-- Definitions that only contracts of private functions and proofs need.
pub
    mod Answering
pub
    mod Carrying
pub
    mod Cosigning
pub
    mod Live
pub
    mod Queueing
pub
    mod Rounds
pub
    mod Running
pub
    mod Saving
pub
    mod Shelved
pub
    mod Stating
pub
    mod Telling
