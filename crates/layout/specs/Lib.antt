pub mod Layout
pub mod Decoded
pub mod Packet
