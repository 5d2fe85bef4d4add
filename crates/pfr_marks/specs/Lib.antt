pub mod Braces
pub mod Marks
