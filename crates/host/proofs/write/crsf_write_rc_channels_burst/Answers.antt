-- `host::write::crsf_write_rc_channels_burst` meets its contract. Assumes nothing.
use Rattle.host_answer.proofs.Fits.{write_fits, answered}
use Rattle.host.proofs.Written.{burst_short}
use Rattle.host.proofs.write.crsf_write_rc_channels_burst.Goals as goal

pub returns : goal.returns
returns c =
    let a = c.args in
    answered c.write_rc_channels_burst_values.ensures (write_fits _ a.buffer.now (burst_short a.dest a.channels.now a.count))
    c.answer_result.ensures.written
