-- `Step`: one call with its position, and its promise. `Seen`: what the promise leaves one of.
pub mod Step
pub mod Seen
