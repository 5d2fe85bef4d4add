pub mod Outputs
pub mod Shows
