pub mod FaultLemmas
pub mod LawLemmas
