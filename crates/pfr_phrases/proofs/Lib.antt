pub mod ApplyLemmas
pub mod CoverLawLemmas
pub mod OptionLemmas
pub mod PlainLawLemmas
pub mod StatementLemmas
