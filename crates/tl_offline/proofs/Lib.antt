pub mod TextLemmas
pub mod HashLemmas
pub mod OneText
pub mod OneFault
pub mod CutLemmas
pub mod Listed
pub mod ParseLemmas
pub mod WriteLemmas
mod ShortPaths
