pub mod Bound
pub mod Standby
