-- Definitions for the contracts of private functions and for proofs.
pub
    mod Sending
pub
    mod Heads
pub
    mod Framings
pub
    mod Bodies
pub
    mod Taking
pub
    mod ChunkReads
pub
    mod Values
pub
    mod Closing
