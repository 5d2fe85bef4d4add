pub mod Copies
pub mod Ends
pub mod Entries
pub mod Refusals
pub mod Steps
