-- `host_records::give_temp` meets its contract. Assumes nothing.
use lib.Dec.{lit<}
use Rattle.series.specs.Temp.{temp_kind}
use Rattle.host_records.proofs.Given.{series_given}
use Rattle.host_records.proofs.give_temp.Goals as goal

pub returns : goal.returns
returns c = let a = c.args in series_given temp_kind (lit< tt) a.payload.now a.out.now c.read_values.ensures c.answer_series.ensures
