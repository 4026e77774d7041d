pub mod Width
pub mod BigEndian
pub mod TwosComplement
