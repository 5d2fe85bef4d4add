pub mod Feedings
pub mod Laws
pub mod Outputs
pub mod PacketSinks
pub mod Replay
pub mod Spelling
pub mod Taking
