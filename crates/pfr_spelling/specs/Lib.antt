pub mod Known
pub mod Macros
pub mod Replacing
pub mod Tables
pub mod Targets
