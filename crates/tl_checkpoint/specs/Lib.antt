-- The definitions of checkpoints (C2SP tlog-checkpoint).
pub mod Checkpoint
pub mod WriteCheckpoint
pub mod ParseCheckpoint
pub mod OpenFaults
pub mod OpenCheckpoint
pub mod Cosignature
pub mod Quorum
pub mod Inner
