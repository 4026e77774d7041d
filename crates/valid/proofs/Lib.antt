pub mod Decisions
pub mod Unique
