pub mod Pointed
pub mod Raw
pub mod Unique
