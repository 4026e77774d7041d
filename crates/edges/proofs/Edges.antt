-- Every case of the table is so.
-- Assumes nothing.
use mathlib.Core.Path.{refl}
use Rattle.base.specs.First.{first_where}
use Rattle.numbers.specs.BigEndian.{bytes_of}
use Rattle.numbers.specs.TwosComplement.{twos_of}
use Rattle.packets.specs.Listed.{listed}
use Rattle.crc.specs.Remainder.{remainder, remainder_from, after_byte, shifts, shift_bit}
use Rattle.reading.specs.Answer.{row, drops}
use Rattle.reading.specs.Reading.{reading, reading_past, first, good_length, passes}
use Rattle.channels.specs.Digits.{number, digits}
use Rattle.channels.specs.Channels.{channels_image}
use Rattle.altitude.specs.Altitude.{pack_of}
use Rattle.records.specs.Battery.{battery_values, battery_image}
use Rattle.edges.specs.Edges.{AllHold, table}

pub all_hold : AllHold table
unfolding listed remainder remainder_from after_byte shifts shift_bit row drops reading reading_past first good_length passes bytes_of twos_of number digits first_where channels_image pack_of battery_values battery_image
all_hold = (
  refl,
  (
    refl,
    (
      refl,
      (
        refl,
        (
          refl,
          (
            refl,
            (
              refl,
              (
                refl,
                (refl, (refl, (refl, (refl, (refl, (refl, (refl, (refl, (refl, (refl, (refl, (refl, (refl, (refl, tt)))))))))))))),
              ),
            ),
          ),
        ),
      ),
    ),
  ),
)
