pub mod Key
pub mod Note
pub mod Line
pub mod View
pub mod Open
pub mod OpenNote
pub mod SignNote
pub mod Inner
