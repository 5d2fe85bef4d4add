pub mod Counts
pub mod Escapes
pub mod Lines
