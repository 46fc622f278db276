pub mod Question
pub mod Refusal
pub mod Answer
pub mod Asking
-- Asking witnesses to cosign a log's checkpoints (C2SP tlog-witness, tlog-cosignature).
pub mod Growing
pub mod Proposing
pub mod Lines
pub mod Refusing
pub mod Inner
