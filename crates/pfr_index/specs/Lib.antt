pub mod Folds
pub mod Index
pub mod Searches
pub mod Slots
