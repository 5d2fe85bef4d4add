pub mod Addresses
pub mod Faults
pub mod Hosts
pub mod Input
pub mod Lists
pub mod Ports
pub mod Terms
