-- `lines::line::put_refusal` meets its contract. Assumes nothing.
use Rattle.lines.proofs.Puts.{line_none, line_as}
use Rattle.lines.proofs.Rows.{other_line}
use Rattle.lines.proofs.line.put_refusal.Goals as goal

pub returns-in_default : goal.returns-in_default
returns-in_default c =
    let other = c.in_default in
    line_as (other_line c.args.refusal other.not-InvalidSync other.not-InvalidPacketLength other.not-InvalidCrc) line_none
