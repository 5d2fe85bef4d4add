pub mod CountLemmas
pub mod ItselfLemmas
pub mod StatementLemmas
pub mod TurnLemmas
