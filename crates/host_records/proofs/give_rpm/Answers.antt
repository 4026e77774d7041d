-- `host_records::give_rpm` meets its contract. Assumes nothing.
use lib.Dec.{lit<}
use Rattle.series.specs.Rpm.{rpm_kind}
use Rattle.host_records.proofs.Given.{series_given}
use Rattle.host_records.proofs.give_rpm.Goals as goal

pub returns : goal.returns
returns c = let a = c.args in series_given rpm_kind (lit< tt) a.payload.now a.out.now c.read_values.ensures c.answer_series.ensures
