pub mod Gps
pub mod GpsExtended
pub mod Small
