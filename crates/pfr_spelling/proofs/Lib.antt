pub mod KnownLawLemmas
pub mod MacroLemmas
pub mod TableLemmas
pub mod TargetLemmas
pub mod ValueLemmas
