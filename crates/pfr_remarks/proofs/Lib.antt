pub mod OtherWords
pub mod RemarkLemmas
pub mod WordLemmas
