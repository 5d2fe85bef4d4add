pub mod Faults
pub mod Laws
pub mod Leaving
pub mod Spread
