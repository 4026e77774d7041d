pub mod Built
pub mod Lent
pub mod Laws
pub mod Unique
