-- `host_records::give_battery` meets its contract. Assumes nothing.
use Rattle.std.proofs.Common.{arith}
use lib.Dec.{lit<}
use Rattle.records.specs.Battery.{battery_values}
use Rattle.records.proofs.BatteryLaws.{capacity_read}
use Rattle.host_records.proofs.Given.{all_given, answer_given, answer_refused}
use Rattle.host_records.proofs.give_battery.Goals as goal

pub battery_values-requires : goal.battery_values-requires
battery_values-requires c = capacity_read _ c.args.payload.now (λ i. omega (arith, c.type_inv.payload i)) c.in-Ok.ensures

pub returns-in-Ok : goal.returns-in-Ok
unfolding battery_values
returns-in-Ok c =
    let a = c.args in
    answer_given battery_values a.out.now _ c.in-Ok.ensures (all_given a.out.now c.give_all.ensures c.battery_values.ensures (lit< tt))

pub returns-in-Err : goal.returns-in-Err
returns-in-Err c = answer_refused battery_values c.args.out.now _ c.in-Err.ensures c.refuse.ensures
