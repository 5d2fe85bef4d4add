pub mod LookupLemmas
pub mod RecordLemmas
pub mod SoundLemmas
