pub mod Answered
pub mod Run
