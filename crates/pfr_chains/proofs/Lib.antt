pub mod ChainLemmas
pub mod RunLemmas
