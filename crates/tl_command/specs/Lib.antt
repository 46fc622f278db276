-- The definitions of the commands.
pub mod Lines
pub mod Entries
pub mod Head
pub mod ProofText
pub mod ProofShown
pub mod ProofCommands
pub mod AuditText
pub mod AuditCommand
pub mod Keygen
pub mod OpenCosigned
pub mod Open
pub mod CheckOpened
pub mod Mirror
pub mod Build
pub mod Signed
pub mod Inner
