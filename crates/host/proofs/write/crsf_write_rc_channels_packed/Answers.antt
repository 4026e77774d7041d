-- `host::write::crsf_write_rc_channels_packed` meets its contract. Assumes nothing.
use mathlib.Core.Path.{sym, ap, ◌∙◌}
use Rattle.refusals.specs.declared.Refusal.TheVariants.{InvalidPayloadLength}
use Rattle.writing.specs.Writing.{Image, written_row}
use Rattle.writing.specs.Writing.{Written}
use Rattle.channels.specs.Channels.{channels_type, channels_image}
use Rattle.channels.specs.Small.{channels_small}
use Rattle.host.specs.Write.{writes}
use Rattle.host.proofs.Written.{frame_answered, no_record, is_sixteen, not_sixteen}
use Rattle.host.proofs.write.crsf_write_rc_channels_packed.Goals as goal

pub returns-then-channels-ne-CHANNELS : goal.returns-then-channels-ne-CHANNELS
returns-then-channels-ne-CHANNELS c =
    let a = c.args in
    let none = ap (λ (w : Written). (written_row w, a.buffer.now)) c.no_record.ensures ∙ no_record a.dest channels_type InvalidPayloadLength a.buffer.now in
    frame_answered _ _ _ _ none tt c.answer_result.ensures.written
    ∙ ap (λ (i : Image). writes a.dest channels_type i a.buffer.now) (sym (not_sixteen a.channels.now c.if-channels-ne-CHANNELS.true))

pub returns : goal.returns
returns c =
    let a = c.args in
    frame_answered _ _ _ _ c.write_packet_to_buffer.ensures (channels_small _) c.answer_result-2.ensures.written
    ∙ ap (λ (i : Image). writes a.dest channels_type i a.buffer.now)
    (ap channels_image c.sixteen.ensures ∙ sym (is_sixteen a.channels.now c.if-channels-ne-CHANNELS.false))
