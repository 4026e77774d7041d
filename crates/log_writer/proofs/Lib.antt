pub mod Frames
pub mod Writes
pub mod Laws
pub mod Edges
pub mod Unique
