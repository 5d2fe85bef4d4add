pub mod Insides
pub mod Macs
pub mod Peers
pub mod Places
pub mod Seeds
pub mod Taps
