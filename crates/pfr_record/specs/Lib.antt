pub mod Record
pub mod Speculations
