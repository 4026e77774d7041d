-- `host_records::gps_extended_values` meets its contract: number by number, since twelve at once are past a bound of `search`. Assumes nothing.
use Rattle.std.proofs.Common.{◌≡◌, ℤ, List, ◌∷◌, refl, ap₂, rules}
use Rattle.positions.specs.GpsExtended.{gps_extended_values}
use Rattle.host_records.proofs.gps_extended_values.Goals as goal

each : {x y : ℤ} {xs ys : List ℤ} → x ≡ y → xs ≡ ys → x ∷ xs ≡ y ∷ ys
each = ap₂ (λ (x : ℤ) (xs : List ℤ). x ∷ xs)

pub returns : goal.returns
unfolding gps_extended_values
returns c =
    each (search rules) (each (search rules) (each (search rules) (each (search rules) (each (search rules) (each (search rules) (each (search rules) (each (search rules) (each (search rules) (each (search rules) (each (search rules) (each (search rules) refl)))))))))))
