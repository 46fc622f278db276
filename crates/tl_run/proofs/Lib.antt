pub mod Files
pub mod PrivateFiles
pub mod Names
