pub mod Asking
pub mod Hosts
pub mod Laws
pub mod Packets
pub mod Pins
pub mod Translations
pub mod Transports
