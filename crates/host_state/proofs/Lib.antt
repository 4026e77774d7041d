-- `States`: what the tests say, and the state after its bytes were written. `Steps` and `Saves`: from what was said of the places to what is said
-- of the state. `Laws`: what the definitions are for. `Unique`: one answer.
pub mod States
pub mod Steps
pub mod Saves
pub mod Laws
pub mod Unique
