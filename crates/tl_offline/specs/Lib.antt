-- The definitions of proofs that travel (C2SP tlog-proof).
pub mod ProofText
pub mod ParseProof
pub mod WriteProof
pub mod CheckEntry
pub mod FaultWords
pub mod Inner
