-- One request over HTTP/1.1, by GET, by POST or in the caller's form, and its response (RFC 9110, RFC 9112).
pub mod Request
pub mod FieldValues
pub mod Values
pub mod Fields
pub mod Chunks
pub mod Response
pub mod Get
pub mod Post
pub mod Message
pub mod Persistence
pub mod Exchange
pub mod Inner
