pub mod CaptureLemmas
pub mod DeviceLemmas
pub mod LawLemmas
pub mod ListLemmas
pub mod ReadingLemmas
pub mod RecordLemmas
