pub mod PlainText
pub mod Lines
pub mod PieceLemmas
pub mod Base64Lemmas
