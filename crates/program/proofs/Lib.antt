-- `Named`: the name of a file. `Unique`: one answer.
pub mod Named
pub mod Unique
