pub mod Decoder
pub mod Packet
