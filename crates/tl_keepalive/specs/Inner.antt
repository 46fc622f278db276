-- Private words: what contracts of private functions and proofs need.
pub mod Coming
pub mod Facts
pub mod Replying
