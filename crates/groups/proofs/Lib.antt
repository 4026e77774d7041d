-- `Groups`: laws of the groups of a number. `Reading`: both round trips, no form begins another, too many groups. `Steps`: what the code's tests
-- say. `Fronts`: the loop over a string. `Laws`: what the code says of a front and leaves. `Edges`: both sides of each edge. `Unique`: one answer.
pub mod Groups
pub mod Reading
pub mod Steps
pub mod Fronts
pub mod Laws
pub mod Edges
pub mod Unique
