pub mod LinkStatistics
pub mod BaroAltitude
pub mod Battery
pub mod Edges
pub mod Small
