pub mod ChangeLemmas
pub mod KeepLemmas
pub mod OrderLemmas
pub mod OwnLemmas
pub mod StandingLemmas
