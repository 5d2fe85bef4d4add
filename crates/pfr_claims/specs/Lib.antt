pub mod Batches
pub mod Claiming
pub mod Counting
pub mod Drawing
