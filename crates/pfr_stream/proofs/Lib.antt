pub mod BackLemmas
pub mod FitLemmas
pub mod Framed
pub mod OnlyLemmas
pub mod RowLemmas
pub mod Takings
pub mod WritingLemmas
