-- A log in a bucket.
pub mod Bucket
pub mod Operators
pub mod Histories
pub mod Commits
pub mod Claims
pub mod Answered
pub mod Shelved
pub mod Buckets
pub mod Workers
pub mod Opened
pub mod Finishing
pub mod FaultWords
pub mod Inner
