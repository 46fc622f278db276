pub mod KeepAlive
pub mod Conversation
pub mod Exchanges
pub mod Plain
pub mod Inner
