-- A record's payload fits a frame.
-- Assumes nothing.
use lib.Dec.{eqb, ltb, lit≤}
use Rattle.base.proofs.Tests.{by_test}
use Rattle.layout.specs.Packet.{Small}
use Rattle.layout.proofs.Writers.{record_small}
use Rattle.records.specs.LinkStatistics.{link_statistics_layout, link_statistics_values, link_statistics_image}
use Rattle.records.specs.BaroAltitude.{baro_altitude_layout, baro_altitude_values, baro_altitude_image}
use Rattle.records.specs.Battery.{battery_layout, short_layout, battery_values, too_large, battery_image}
use Rattle.records.specs.declared.link_statistics.LinkStatistics.{LinkStatistics}
use Rattle.records.specs.declared.baro_altitude.BaroAltitude.{BaroAltitude}
use Rattle.records.specs.declared.battery.Battery.{Battery}

pub link_statistics_small : (x : LinkStatistics) → Small (link_statistics_image x)
unfolding link_statistics_values
link_statistics_small x = record_small link_statistics_layout (link_statistics_values x) (lit≤ tt) (lit≤ tt) (lit≤ tt)

pub baro_altitude_small : (x : BaroAltitude) → Small (baro_altitude_image x)
unfolding baro_altitude_values
baro_altitude_small x = record_small baro_altitude_layout (baro_altitude_values x) (lit≤ tt) (lit≤ tt) (lit≤ tt)

pub battery_small : (x : Battery) → Small (battery_image x)
unfolding battery_image battery_values
battery_small x =
    by_test (ltb x.capacity_used too_large)
    (λ fits.
    rw fits
    (by_test (eqb x.id 0)
    (λ none. rw none (record_small short_layout (battery_values x) (lit≤ tt) (lit≤ tt) (lit≤ tt)))
    (λ some. rw some (record_small battery_layout (battery_values x) (lit≤ tt) (lit≤ tt) (lit≤ tt)))))
    (λ large. rw large tt)
