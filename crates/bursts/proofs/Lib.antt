pub mod Images
pub mod Turns
pub mod Sixteens
pub mod Laws
pub mod Order
pub mod Unique
