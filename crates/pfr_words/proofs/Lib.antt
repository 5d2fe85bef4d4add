pub mod BraceLemmas
pub mod JoinedPieces
pub mod JoinedWords
pub mod LineLemmas
pub mod PieceLemmas
pub mod RunLemmas
