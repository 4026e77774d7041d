-- `micros::to_microseconds` meets its contract: up to 2047 its formula is exact.
-- Assumes nothing.
use mathlib.Core.Logic.{inl, inr}
use mathlib.Core.Path.{refl}
use native.Mathlib.Omega.{arith}
use lib.Ieee.{binary32, to_bits}
use Rattle.micros.specs.Micros.{microseconds_row}
use Rattle.micros.proofs.Formula.{formula, exact}
use Rattle.micros.proofs.to_microseconds.Goals as goal

pub returns-then-raw-gt-GREATEST : goal.returns-then-raw-gt-GREATEST
unfolding microseconds_row
returns-then-raw-gt-GREATEST c =
    inr (record { above = omega arith; said = refl })

pub returns : goal.returns
unfolding microseconds_row
returns c =
    let raw = c.args.raw in
    inl (record { within = omega arith; bits = to_bits binary32 (formula raw); said = refl; exact = exact raw (omega arith) })
