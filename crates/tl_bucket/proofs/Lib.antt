pub mod Commits
pub mod Answers
pub mod Claimed
pub mod Settled
pub mod Finishes
pub mod CommitTexts
pub mod CommitEntries
pub mod CommitLaws
pub mod Grown
pub mod Sound
pub mod Shown
pub mod Last
pub mod Right
pub mod Going
mod Race
