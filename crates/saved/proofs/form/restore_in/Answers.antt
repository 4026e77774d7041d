-- `saved::form::restore_in` meets its contract. Assumes nothing.
use Rattle.std.proofs.Common.{sym}
use Rattle.saved.proofs.Heads.{restore_none, restore_far, restore_through}
use Rattle.saved.proofs.form.restore_in.Goals as goal

pub returns-in-Some : goal.returns-in-Some
returns-in-Some c =
    let a = c.args in
    let head = c.head_of-head.ensures in
    restore_through a.form.now a.places.now head.older c.in-Some.ensures.0 c.in-Some.ensures.1
    (rw (← head.position) (sym c.if-is_within.ensures)) c.copy_in.ensures

pub returns-in_default : goal.returns-in_default
returns-in_default c =
    let a = c.args in
    let head = c.head_of-head.ensures in
    restore_far a.form.now a.places.now head.older c.in-Some.ensures.0 c.in-Some.ensures.1 (rw (← head.position) (sym c.if-is_within.ensures))

pub returns-in_default-2 : goal.returns-in_default-2
returns-in_default-2 c =
    let a = c.args in restore_none a.form.now a.places.now c.head_of-head.ensures.older (rw c.in_default.is at c.held_bytes.ensures)
