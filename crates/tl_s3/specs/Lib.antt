pub mod Canonical
pub mod CanonicalRequests
pub mod Signing
pub mod Time
-- Objects of a bucket, put and got by signed requests.
pub mod Signed
pub mod Objects
pub mod Requests
pub mod Answers
pub mod Inner
