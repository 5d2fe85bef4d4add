pub mod Ends
pub mod Learning
pub mod Running
pub mod Seen
pub mod Ties
pub mod Traces
pub mod Turns
