-- `records::battery::Battery::to_bytes` meets its contract: a capacity that is too large is refused; else the id goes behind the other fields, where
-- there is one.
-- Assumes nothing.
use mathlib.Core.Path.{refl}
use native.Mathlib.Omega.{arith}
use lib.Dec.{lit≤}
use lib.ListN.{drop}
use Rattle.refusals.specs.declared.Refusal.TheVariants.{CapacityRange}
use Rattle.writing.proofs.Writing.{refuses}
use Rattle.records.specs.Battery.{battery_layout, short_layout, battery_values}
use Rattle.layout.proofs.Writers.{put_from, put_fields, no_room, wrote, wrote_in_two}
use Rattle.records.proofs.BatteryLaws.{image_refused, image_short, image_long}
use Rattle.records.proofs.battery.BatteryCrsfPacket.to_bytes.Goals as goal

pub returns-then-self-gt-MAX_CAPACITY : goal.returns-then-self-gt-MAX_CAPACITY
returns-then-self-gt-MAX_CAPACITY c =
    let a = c.args in
    rw (image_refused a.self c.if-self-gt-MAX_CAPACITY.true) (refuses CapacityRange a.buffer.now)

pub returns-then-buffer-lt-MIN_PAYLOAD_SIZE : goal.returns-then-buffer-lt-MIN_PAYLOAD_SIZE
unfolding battery_values
returns-then-buffer-lt-MIN_PAYLOAD_SIZE c =
    let a = c.args in
    rw (image_short a.self (omega (arith, c.if-self-gt-MAX_CAPACITY.false)) c.if-id-eq0.true)
    (no_room short_layout (battery_values a.self) (lit≤ tt) a.buffer.now c.if-buffer-lt-MIN_PAYLOAD_SIZE.true)

pub returns-then-buffer-lt-SIZE_WITH_ID : goal.returns-then-buffer-lt-SIZE_WITH_ID
unfolding battery_values
returns-then-buffer-lt-SIZE_WITH_ID c =
    let a = c.args in
    rw (image_long a.self (omega (arith, c.if-self-gt-MAX_CAPACITY.false)) c.if-id-eq0.false)
    (no_room battery_layout (battery_values a.self) (lit≤ tt) a.buffer.now c.if-buffer-lt-SIZE_WITH_ID.true)

pub returns-else-buffer-lt-MIN_PAYLOAD_SIZE : goal.returns-else-buffer-lt-MIN_PAYLOAD_SIZE
unfolding battery_values
returns-else-buffer-lt-MIN_PAYLOAD_SIZE c =
    let a = c.args in
    rw (image_short a.self (omega (arith, c.if-self-gt-MAX_CAPACITY.false)) c.if-id-eq0.true)
    (wrote short_layout (battery_values a.self) (lit≤ tt) a.buffer.now c.if-buffer-lt-MIN_PAYLOAD_SIZE.false c.put_short.ensures)

pub returns-else-buffer-lt-SIZE_WITH_ID : goal.returns-else-buffer-lt-SIZE_WITH_ID
unfolding battery_values put_from
returns-else-buffer-lt-SIZE_WITH_ID c =
    let a = c.args in
    rw (image_long a.self (omega (arith, c.if-self-gt-MAX_CAPACITY.false)) c.if-id-eq0.false)
    (wrote_in_two battery_layout (battery_values a.self) (lit≤ tt) a.buffer.now 4 c.if-buffer-lt-SIZE_WITH_ID.false
    c.put_short-else-id-eq0.ensures
    (put_fields (drop 4 battery_layout) (drop 4 (battery_values a.self)) 8 _ (omega arith) (refl, tt) c.put_u8.ensures))
