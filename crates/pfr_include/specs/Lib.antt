pub mod Files
pub mod Laws
pub mod Positions
pub mod Splices
pub mod Splicing
pub mod Statements
pub mod Turns
