-- `saved::form::save_in` meets its contract. Assumes nothing.
use Rattle.std.proofs.Common.{sym, ℕ, ◌-◌, ◌≤◌, length, arith}
use native.Mathlib.Nat.{lt_of_le_of_lt}
use lib.Dec.{lit<}
use Rattle.groups.specs.Groups.{groups}
use Rattle.groups.proofs.Groups.{groups_most}
use Rattle.saved.proofs.Laws.{can_save_lem}
use Rattle.saved.proofs.Heads.{save_refused, save_short, save_written}
use Rattle.saved.proofs.form.save_in.Goals as goal

ten : (n : ℕ) → n ≤ 18446744073709551615 → length (groups n) ≤ 10
ten n small = groups_most 9 n (lt_of_le_of_lt small (lit< tt))

pub returns-then-not-can_save : goal.returns-then-not-can_save
returns-then-not-can_save c =
    let a = c.args in save_refused a.places.now a.start a.end a.position a.out.now (sym c.if-not-can_save.ensures)

pub overflow_sub-count : goal.overflow_sub-count
overflow_sub-count c = (can_save_lem _ _ _ _ (sym c.if-not-can_save.ensures)).span.ordered

pub overflow_add-at : goal.overflow_add-at
overflow_add-at c = let a = c.args in record { fits = omega (arith, c.size-at.ensures, ten a.position (omega arith)) }

pub overflow_add-from : goal.overflow_add-from
overflow_add-from c =
    let a = c.args in
    record { fits = omega (arith, c.size-at.ensures, c.size.ensures, ten a.position (omega arith), ten (a.end - a.start) (omega arith)) }

pub returns-then-not-fits : goal.returns-then-not-fits
returns-then-not-fits c =
    let a = c.args in
    save_short a.places.now a.start a.end a.position a.out.now (sym c.if-not-can_save.ensures) c.size-at.ensures c.size.ensures (sym c.if-not-fits.ensures)

pub slice_bounds-copy_in-count : goal.slice_bounds-copy_in-count
slice_bounds-copy_in-count c = (can_save_lem _ _ _ _ (sym c.if-not-can_save.ensures)).span.ordered

pub slice_bounds-copy_in-start : goal.slice_bounds-copy_in-start
slice_bounds-copy_in-start c = (can_save_lem _ _ _ _ (sym c.if-not-can_save.ensures)).span.ordered

pub slice_bounds-copy_in-end : goal.slice_bounds-copy_in-end
slice_bounds-copy_in-end c = (can_save_lem _ _ _ _ (sym c.if-not-can_save.ensures)).span.inside

pub returns : goal.returns
returns c =
    let a = c.args in
    save_written a.places.now a.start a.end a.position a.out.now (sym c.if-not-can_save.ensures) c.size-at.ensures c.size.ensures
    (sym c.if-not-fits.ensures) c.put.ensures c.put-2.ensures c.copy_in.ensures
