-- In the order in which to read them. `Writer`: what there is to write. `Run`: calls of the writer, each behind the one before. `Edges`: entries as
-- bytes, at both sides of each number.
pub mod Writer
pub mod Run
pub mod Edges
