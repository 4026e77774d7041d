-- `host::views::crsf_channel_microseconds` meets its contract. Assumes nothing.
use Rattle.host.proofs.Shown.{bits_there, bits_given, bits_refused}
use Rattle.host.proofs.views.crsf_channel_microseconds.Goals as goal

pub float_to_bits-us : goal.float_to_bits-us
float_to_bits-us c = let a = c.args in bits_there a.raw a.out.now c.to_microseconds.ensures c.in-Ok.is

pub returns-in-Ok : goal.returns-in-Ok
returns-in-Ok c = let a = c.args in bits_given a.raw a.out.now c.to_microseconds.ensures c.in-Ok.is c.give_one.ensures

pub returns-in-Err : goal.returns-in-Err
returns-in-Err c = let a = c.args in bits_refused a.raw a.out.now c.to_microseconds.ensures _ c.in-Err.is c.refuse.ensures
