-- `Within`: what the test says. `Counts`: what a call dropped, as the code counts it. `Steps`: what is answered at each return. `Unique`: one answer.
pub mod Within
pub mod Counts
pub mod Steps
pub mod Unique
