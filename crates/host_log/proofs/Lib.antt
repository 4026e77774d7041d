-- `Heads`: the head's bytes, written and read. `States`: what the tests say, and from what is said of the places to what is said of the state.
pub mod Heads
pub mod States
pub mod Fits
pub mod Again
pub mod Sessions
pub mod Unique
pub mod Calls
pub mod Laws
