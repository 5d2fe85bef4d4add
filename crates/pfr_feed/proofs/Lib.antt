pub mod CallLemmas
pub mod ReadingLemmas
pub mod TakeLemmas
pub mod ViewLemmas
