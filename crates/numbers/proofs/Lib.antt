pub mod Width
pub mod BigEndian
pub mod TwosComplement
pub mod Signs
pub mod Unique
pub mod RoundTrip
