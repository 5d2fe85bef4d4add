pub mod Choices
pub mod Counts
pub mod Laws
pub mod Lists
pub mod Translations
