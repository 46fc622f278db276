pub mod Conversations
pub mod Heads
pub mod Stayings
pub mod Texts
pub mod Turning
