pub mod Asking
pub mod Laws
pub mod Runs
pub mod Seen
