pub mod BinatLemmas
pub mod Members
pub mod OwnLemmas
pub mod PinLemmas
pub mod SkipLemmas
