-- Packed altitudes read back: exact near the ground, to the nearest metre above (RULES 11).
-- Assumes nothing.
use mathlib.Core.Path.{◌≡◌, ap}
use mathlib.Core.Bool.{true}
use Prim.Native.Nat.{ℕ, suc, ◌+◌, ◌-◌, ◌*◌, ◌/◌, ◌≤◌}
use native.Mathlib.Nat.{add-sub_cancel}
use native.Mathlib.Omega.{arith}
use borrow.Author.Tests.{lt-ltb, le-ltb, leb-true}
use lib.IntN.{ℤ, pos, negsuc}
use lib.Signed.{le_z}
use Rattle.altitude.specs.Altitude.{pack_of, decimetres_of}

-- from -10000 to 22767 decimetres an altitude comes back exact
pub exact_back : (d : ℤ) → le_z (negsuc 9999) d ≡ true → le_z d (pos 22767) ≡ true → decimetres_of (pack_of d) ≡ d
unfolding pack_of decimetres_of
exact_back (pos a) low high =
    let h : a ≤ 22767 = leb-true a 22767 high in
    rw (le-ltb 327655 a (omega arith), lt-ltb a 22768 (omega arith), lt-ltb (a + 10000) 32768 (omega arith), le-ltb (a + 10000) 10000 (omega arith), add-sub_cancel a 10000)
exact_back (negsuc a) low high =
    let h : a ≤ 9999 = leb-true a 9999 low in
    rw (le-ltb 9999 a h, le-ltb 10000 (suc a) (omega arith), lt-ltb (10000 - suc a) 32768 (omega arith), lt-ltb (10000 - suc a) 10000 (omega arith)) (ap negsuc (omega arith))

-- from 22768 to 327655 what comes back, less d, is -4 to 5
pub near_back : (d : ℕ) → 22768 ≤ d → d ≤ 327655 → (back : ℕ) × (decimetres_of (pack_of (pos d)) ≡ pos back) × (d ≤ back + 4) × (back ≤ d + 5)
unfolding pack_of decimetres_of
near_back d low high = (
  (d + 5) / 10 * 10,
  rw (le-ltb 327655 d (omega arith), le-ltb d 22768 (omega arith), le-ltb ((d + 5) / 10 + 32768) 32768 (omega arith), add-sub_cancel ((d + 5) / 10) 32768),
  omega arith,
  omega arith,
)
