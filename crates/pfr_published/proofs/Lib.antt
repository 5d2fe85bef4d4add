pub mod Entries
pub mod NextChange
