pub mod Midway
pub mod Named
pub mod Readings
pub mod Skipped
