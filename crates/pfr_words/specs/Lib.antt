pub mod Names
pub mod Tables
pub mod Words
