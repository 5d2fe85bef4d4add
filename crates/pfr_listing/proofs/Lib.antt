pub mod AppendLemmas
pub mod LineLemmas
