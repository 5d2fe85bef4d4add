pub mod Ahead
pub mod Device
pub mod Header
pub mod Laws
pub mod Memory
pub mod Reading
pub mod Records
pub mod Stepping
