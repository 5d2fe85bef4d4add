pub mod ChangeLemmas
pub mod HistoryLemmas
pub mod HoldingLemmas
pub mod PurgeLemmas
pub mod StandbyLemmas
pub mod ToldLemmas
