pub mod Cuts
pub mod NotSigned
pub mod Verdicts
pub mod ForkRuns
