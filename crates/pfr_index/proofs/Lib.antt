pub mod CountLemmas
pub mod FindLemmas
pub mod FoldLemmas
pub mod LeaveLemmas
pub mod OrderLemmas
pub mod PutLemmas
pub mod SearchLemmas
