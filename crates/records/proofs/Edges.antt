-- Every battery of the first table is written as it says, and reads back; every one of the second is refused with 11.
-- Assumes nothing.
use Prim.Native.Nat.{ℕ}
use mathlib.Core.Path.{◌≡◌, refl}
use mathlib.Core.List.{List, map}
use Rattle.numbers.specs.BigEndian.{be_of, bytes_of}
use Rattle.numbers.specs.TwosComplement.{signed_of, twos_of}
use Rattle.refusals.specs.declared.Refusal.TheVariants.{CapacityRange}
use Rattle.writing.specs.Writing.{bytes, refused}
use Rattle.layout.specs.Decoded.{decoded}
use Rattle.records.specs.Battery.{battery_values, battery_image, battery_read}
use Rattle.records.specs.Edges.{battery_edges, capacity_edges}
use Rattle.records.specs.declared.battery.Battery.{Battery}

pub batteries_written : map (λ (e : Battery × List ℕ). battery_image e.0) battery_edges ≡ map (λ (e : Battery × List ℕ). bytes e.1) battery_edges
unfolding battery_values battery_image bytes_of twos_of
batteries_written = refl

pub batteries_read : map (λ (e : Battery × List ℕ). battery_read e.1) battery_edges ≡ map (λ (e : Battery × List ℕ). decoded (battery_values e.0)) battery_edges
unfolding battery_values battery_read be_of signed_of
batteries_read = refl

pub capacities_refused : map battery_image capacity_edges ≡ map (λ (x : Battery). refused CapacityRange) capacity_edges
unfolding battery_image
capacities_refused = refl
