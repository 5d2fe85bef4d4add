pub mod NumberLemmas
pub mod TimeoutLemmas
