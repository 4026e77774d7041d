-- `Pieces`: what a piece leaves. `Laws`: piece after piece.
mod Pieces
pub mod Laws
