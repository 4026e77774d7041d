pub mod Formula
pub mod Unique
