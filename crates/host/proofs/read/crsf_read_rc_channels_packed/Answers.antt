-- `host::read::crsf_read_rc_channels_packed` meets its contract. Assumes nothing.
use Rattle.std.proofs.Common.{ℕ, ap, ◌∙◌}
use Rattle.host_records.proofs.Given.{channels_given, channels_refused}
use Rattle.host.proofs.read.crsf_read_rc_channels_packed.Goals as goal

pub returns-in-Ok : goal.returns-in-Ok
returns-in-Ok c = let a = c.args in c.give_channels.ensures ∙ channels_given a.payload.now a.out.now c.from_bytes.ensures c.in-Ok.is

pub returns-in-Err : goal.returns-in-Err
returns-in-Err c =
    let a = c.args in
    ap (λ (r : ℕ). (r, a.out.now)) c.refuse.ensures ∙ channels_refused a.payload.now a.out.now c.from_bytes.ensures _ c.in-Err.is
