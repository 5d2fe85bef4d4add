pub mod Laws
pub mod Lines
pub mod Outcomes
pub mod Reading
pub mod Stream
pub mod Writing
