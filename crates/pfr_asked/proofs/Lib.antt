pub mod DeciderLemmas
pub mod LetsLemmas
pub mod RunLemmas
pub mod SeenLemmas
pub mod StepLemmas
