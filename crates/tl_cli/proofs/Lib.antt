pub mod FileRuns
pub mod Tellings
pub mod Folders
pub mod Buckets
pub mod Credentials
