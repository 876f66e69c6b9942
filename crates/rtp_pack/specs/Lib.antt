pub mod Packetization
pub mod Packets
pub mod Heads
pub mod Reports
pub mod Sizes
pub mod Laws
pub mod PacketizationRules
pub mod Fields
