pub mod OneNote
pub mod FieldLemmas
pub mod NameLemmas
pub mod GapLemmas
pub mod LineLemmas
pub mod SignLemmas
pub mod OpenLemmas
mod Examples
