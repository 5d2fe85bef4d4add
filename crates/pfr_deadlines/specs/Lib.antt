pub mod Waits
pub mod Wheel
