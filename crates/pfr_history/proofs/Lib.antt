pub mod Beginnings
pub mod Exchanges
