pub mod Known
pub mod Laws
pub mod Unique
