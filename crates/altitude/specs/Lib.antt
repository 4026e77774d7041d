pub mod Altitude
pub mod Edges
