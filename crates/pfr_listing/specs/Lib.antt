pub mod Counters
pub mod Json
pub mod Lines
pub mod Pfctl
