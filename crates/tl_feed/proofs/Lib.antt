pub mod TextLemmas
pub mod AskLemmas
pub mod AnswerLaws
pub mod Growths
pub mod GivenLines
pub mod Faults
pub mod Others
