pub mod Fields
pub mod Carried
pub mod Writers
pub mod Readers
pub mod Known
pub mod Laws
