-- `host::read::crsf_read_baro_altitude` meets its contract. Assumes nothing.
use Rattle.records.specs.BaroAltitude.{baro_altitude_values}
use Rattle.host_records.proofs.Given.{answer_given, answer_refused}
use Rattle.host.proofs.read.crsf_read_baro_altitude.Goals as goal

pub returns-in-Ok : goal.returns-in-Ok
returns-in-Ok c = answer_given baro_altitude_values c.args.out.now _ c.in-Ok.ensures c.give_baro_altitude.ensures

pub returns-in-Err : goal.returns-in-Err
returns-in-Err c = answer_refused baro_altitude_values c.args.out.now _ c.in-Err.ensures c.refuse.ensures
