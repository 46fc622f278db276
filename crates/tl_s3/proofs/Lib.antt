mod Names
mod Texts
mod Times
pub mod AskLemmas
