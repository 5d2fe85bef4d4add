pub mod AheadLemmas
pub mod BeginningLemmas
pub mod FeedingLemmas
pub mod PlaceLemmas
pub mod ReadingLemmas
pub mod RunLemmas
pub mod WritingLemmas
pub mod WholeLemmas
