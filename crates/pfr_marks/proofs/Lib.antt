pub mod ListLemmas
pub mod MarkLemmas
