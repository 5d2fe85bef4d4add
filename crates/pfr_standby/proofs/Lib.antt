pub mod BoundLemmas
pub mod HeldLemmas
pub mod MapLemmas
pub mod RowLemmas
