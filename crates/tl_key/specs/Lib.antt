pub mod Hmac
pub mod DemoKey
pub mod NoteKey
pub mod KeyText
pub mod Reading
pub mod Inner
