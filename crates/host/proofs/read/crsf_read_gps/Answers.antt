-- `host::read::crsf_read_gps` meets its contract. Assumes nothing.
use Rattle.positions.specs.Gps.{gps_values}
use Rattle.host_records.proofs.Given.{answer_given, answer_refused}
use Rattle.host.proofs.read.crsf_read_gps.Goals as goal

pub returns-in-Ok : goal.returns-in-Ok
returns-in-Ok c = answer_given gps_values c.args.out.now _ c.in-Ok.ensures c.give_gps.ensures

pub returns-in-Err : goal.returns-in-Err
returns-in-Err c = answer_refused gps_values c.args.out.now _ c.in-Err.ensures c.refuse.ensures
