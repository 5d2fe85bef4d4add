pub mod Flags
pub mod Lines
pub mod Making
pub mod Refused
pub mod Sources
