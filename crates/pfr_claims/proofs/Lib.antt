pub mod Joining
pub mod Sums
pub mod Moves
