pub mod Befores
pub mod Finding
pub mod Laws
pub mod Protocols
pub mod Remarks
pub mod Told
