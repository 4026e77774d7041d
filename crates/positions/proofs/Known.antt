-- A record is known by its numbers, and a reader's answer by what is decoded: no two of them show the same.
-- Assumes nothing.
use mathlib.Core.List.{List}
use mathlib.Core.Path.{◌≡◌, refl}
use lib.IntN.{ℤ}
use Rattle.layout.specs.Decoded.{Decoded}
use Rattle.layout.proofs.Known.{whole, natural, known_by, answer_known}
use Rattle.positions.specs.Gps.{gps_values, gps_decoded}
use Rattle.positions.specs.GpsExtended.{gps_extended_values, gps_extended_decoded}
use Rattle.positions.specs.declared.gps.Gps.{Gps}
use Rattle.positions.specs.Gps.{GpsRead}
use Rattle.positions.specs.declared.gps_extended.GpsExtended.{GpsExtended}
use Rattle.positions.specs.GpsExtended.{GpsExtendedRead}

-- ---- gps

abbrev gps_of : List ℤ → Gps
gps_of vs = record {
  latitude = whole 0 vs;
  longitude = whole 1 vs;
  groundspeed = natural 2 vs;
  heading = natural 3 vs;
  altitude = natural 4 vs;
  satellites = natural 5 vs;
}

pub gps_known : {x y : Gps} {vs : List ℤ} → gps_values x ≡ vs → gps_values y ≡ vs → x ≡ y
unfolding gps_values
gps_known = known_by gps_values gps_of (λ x. refl)

pub gps_read_known : {r r' : GpsRead} {a : Decoded} → gps_decoded r ≡ a → gps_decoded r' ≡ a → r ≡ r'
gps_read_known = answer_known gps_values (λ x y e. gps_known e refl)

-- ---- gps extended

abbrev gps_extended_of : List ℤ → GpsExtended
gps_extended_of vs = record {
  fix_type = natural 0 vs;
  n_speed = whole 1 vs;
  e_speed = whole 2 vs;
  v_speed = whole 3 vs;
  h_speed_acc = whole 4 vs;
  track_acc = whole 5 vs;
  alt_ellipsoid = whole 6 vs;
  h_acc = whole 7 vs;
  v_acc = whole 8 vs;
  reserved = natural 9 vs;
  h_dop = natural 10 vs;
  v_dop = natural 11 vs;
}

pub gps_extended_known : {x y : GpsExtended} {vs : List ℤ} → gps_extended_values x ≡ vs → gps_extended_values y ≡ vs → x ≡ y
unfolding gps_extended_values
gps_extended_known = known_by gps_extended_values gps_extended_of (λ x. refl)

pub gps_extended_read_known : {r r' : GpsExtendedRead} {a : Decoded} → gps_extended_decoded r ≡ a → gps_extended_decoded r' ≡ a → r ≡ r'
gps_extended_read_known = answer_known gps_extended_values (λ x y e. gps_extended_known e refl)
