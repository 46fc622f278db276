pub mod KeyLemmas
pub mod PartsLemmas
pub mod KeyTexts
pub mod Written
