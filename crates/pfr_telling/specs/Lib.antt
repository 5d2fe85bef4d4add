pub mod Holding
pub mod Standby
pub mod Telling
