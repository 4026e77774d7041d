-- `host::views::crsf_raw_view` meets its contract. Assumes nothing.
use Rattle.std.proofs.Common.{◌∙◌}
use Rattle.host.proofs.Shown.{raw_shown, raw_refused}
use Rattle.host.proofs.views.crsf_raw_view.Goals as goal

pub returns-in-Ok : goal.returns-in-Ok
returns-in-Ok c = c.raw_bytes.ensures ∙ raw_shown c.args.bytes.now _ c.in-Ok.ensures

pub returns-in-Err : goal.returns-in-Err
returns-in-Err c = raw_refused c.args.bytes.now _ c.in-Err.ensures c.refuse.ensures
