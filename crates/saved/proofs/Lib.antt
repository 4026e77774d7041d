-- `Writes`: two writes as one. `Forms`: what the tests of a span and of the older form say. `Older`, `Marked`: laws of the older form, and of
-- the form with a position. `Heads`: the position of a form, as the code reads it. `Laws`: what the saved form is for.
-- `Resumes`: a restore by value. `Rows`: what a restore says is known by its row. `Unique`: one answer.
-- `Structs`, `LentLaws`, `LentUnique`: of a parser that is lent: its type as crate `by_hand` takes it, what the form is for, one answer.
pub mod Writes
pub mod Forms
pub mod Older
pub mod Marked
pub mod Laws
pub mod Heads
pub mod Resumes
pub mod Rows
pub mod Unique
pub mod Structs
pub mod LentLaws
pub mod LentUnique
