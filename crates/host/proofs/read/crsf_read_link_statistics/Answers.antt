-- `host::read::crsf_read_link_statistics` meets its contract. Assumes nothing.
use Rattle.records.specs.LinkStatistics.{link_statistics_values}
use Rattle.host_records.proofs.Given.{answer_given, answer_refused}
use Rattle.host.proofs.read.crsf_read_link_statistics.Goals as goal

pub returns-in-Ok : goal.returns-in-Ok
returns-in-Ok c = answer_given link_statistics_values c.args.out.now _ c.in-Ok.ensures c.give_link_statistics.ensures

pub returns-in-Err : goal.returns-in-Err
returns-in-Err c = answer_refused link_statistics_values c.args.out.now _ c.in-Err.ensures c.refuse.ensures
