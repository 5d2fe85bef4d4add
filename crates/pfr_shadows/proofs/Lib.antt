mod CoverLemmas
mod DecidingLemmas
