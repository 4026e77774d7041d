-- `Held`, `Frames`, `Histories`: what a call keeps, gives and adds to a history. `Structs`: the crate's structs, as crate `by_hand` takes them.
-- `Unique`, `LentUnique`: each promise leaves one answer.
pub mod Held
pub mod Frames
pub mod Histories
pub mod Structs
pub mod Unique
pub mod LentUnique
