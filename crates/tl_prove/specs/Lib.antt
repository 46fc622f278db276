-- The definitions of the commands `verify`, `prove` and `submit`, and of `fetch` and `feed` under a policy.
pub mod Entry
pub mod Faults
pub mod FaultWords
pub mod Policies
pub mod Verify
pub mod Accepted
pub mod VerifyCommand
pub mod Prove
pub mod ProveCommand
pub mod FetchCommand
pub mod SubmitCommand
pub mod Inner
