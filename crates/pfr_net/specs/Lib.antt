pub mod Interfaces
pub mod Networks
pub mod Notation
pub mod Timeouts
