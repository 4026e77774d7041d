-- `Asked`: what a comparison asks for, as the program needs it. `Laws`: a call, and a block that is fed, carry a run of the comparison on. `Kept`: so
-- does each turn of the loop.
pub mod Asked
pub mod Laws
pub mod Kept
