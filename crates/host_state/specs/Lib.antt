pub mod State
pub mod Step
pub mod Saving
pub mod Seen
