pub mod Datagrams
pub mod Laws
pub mod Sequences
pub mod Tcp
pub mod Tracking
