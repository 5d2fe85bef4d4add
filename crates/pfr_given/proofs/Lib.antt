pub mod EntryLemmas
pub mod Examples
pub mod FileLemmas
pub mod ListingLemmas
pub mod PartLemmas
pub mod ServiceLemmas
pub mod WrittenLemmas
