pub mod Edges
pub mod Known
pub mod Laws
pub mod BatteryLaws
pub mod Unique
