pub mod Writing
pub mod Rows
pub mod Left
