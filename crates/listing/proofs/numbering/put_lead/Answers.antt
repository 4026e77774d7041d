-- `listing::numbering::put_lead` meets its contract. Assumes nothing.
use mathlib.Core.Path.{ap}
use Prim.Native.Nat.{◌+◌, ◌≤◌}
use native.Mathlib.Omega.{arith}
use lib.ListN.{length}
use Rattle.lines.specs.Lines.{longest_position}
use Rattle.lines.proofs.Puts.{puts_none, puts_as, puts_within}
use Rattle.listing.specs.Numbering.{lead, room_for}
use Rattle.listing.proofs.numbering.put_lead.Goals as goal

pub returns-in-None : goal.returns-in-None
returns-in-None c =
    let off = c.in-None.is in
    (puts_as (ap lead off) puts_none, omega (arith, ap room_for off))

pub returns-in-Some : goal.returns-in-Some
returns-in-Some c =
    let from = c.in-Some.is in
    let room : c.args.at + longest_position ≤ length c.args.out.now = omega (arith, c.requires, ap room_for from) in
    (puts_as (ap lead from) (puts_within longest_position room c.put_position.ensures.0), omega (arith, c.put_position.ensures.1, ap room_for from))
