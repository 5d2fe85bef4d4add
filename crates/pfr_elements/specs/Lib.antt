pub mod Elements
pub mod Hosts
pub mod Interfaces
pub mod Meanings
pub mod Names
pub mod Single
pub mod Terms
pub mod Values
