pub mod Entries
pub mod Files
pub mod Listings
pub mod Services
pub mod Texts
pub mod Written
