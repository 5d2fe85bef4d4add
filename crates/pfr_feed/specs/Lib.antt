pub mod Batches
pub mod Captures
pub mod Reading
pub mod Runs
pub mod Stops
pub mod Transitions
pub mod Turns
