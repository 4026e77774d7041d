-- In the order in which to read them. `Entry`: what a log is made of. `Reading`: what a reader makes of a string, byte by byte. `Strings`: the same,
-- said of whole strings. `Call`: one call, and any history of calls. `Room`: how many bytes a call may take. `Edges`: both sides of each number.
pub mod Entry
pub mod Reading
pub mod Strings
pub mod Call
pub mod Room
pub mod Edges
