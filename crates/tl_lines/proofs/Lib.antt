pub mod CuttingLemmas
pub mod DealtLemmas
pub mod PieceLemmas
pub mod ReadingLemmas
