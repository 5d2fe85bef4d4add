pub mod Destinations
pub mod Heads
pub mod Jobs
pub mod Origins
pub mod Standard
