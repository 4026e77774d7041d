-- `Kept`: the loop over a piece. `Turns`: what becomes of one. `Laws`: piece after piece.
mod Kept
mod Turns
pub mod Laws
