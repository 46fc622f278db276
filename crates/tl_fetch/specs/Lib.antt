-- The definitions of fetching from a log that isn't trusted.
pub mod FaultWords
pub mod Faults
pub mod Trusting
pub mod Opening
pub mod Listed
pub mod Entries
pub mod Printed
pub mod Evidence
pub mod Fetching
pub mod Feeding
pub mod Command
pub mod FeedCommand
pub mod ByPolicy
pub mod Inner
