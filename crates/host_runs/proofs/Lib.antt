pub mod Answered
pub mod Runs
