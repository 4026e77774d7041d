-- What the code's tests say of a step and of a form, at each return.
-- Assumes nothing.
use Rattle.std.specs.Prelude.{Ok, Err}
use mathlib.Core.Path.{◌≡◌, refl, sym, ap, ap₂, ◌∙◌}
use mathlib.Core.Bool.{true, false}
use mathlib.Core.List.{List, [], ◌∷◌}
use Prim.Native.Nat.{ℕ, zero, suc, ◌+◌, ◌*◌, ◌-◌, ◌≤◌, ◌<◌, ◌/◌, ◌%◌}
use native.Mathlib.Nat.{div-lt_iff_lt-mul, le-div_iff_mul-le, mul-le-mul_right, mod-eq_of_lt}
use native.Mathlib.Omega.{arith}
use borrow.Author.Tests.{lt-ltb, le-ltb, eq-eqb, ne_eqb}
use lib.Dec.{ltb, lit<}
use lib.ListN.{length, set}
use Rattle.base.specs.Parts.{pasted, fits_in}
use Rattle.base.proofs.Tests.{by_test}
use Rattle.base.proofs.Parts.{set_pasted, pasted_append}
use Rattle.groups.specs.declared.Step.TheVariants.{GoesOn, Done, Malformed}
use Rattle.refusals.specs.declared.Refusal.TheVariants.{BufferOverflow}
use Rattle.writing.specs.Writing.{wrote_row, written_row}
use Rattle.groups.specs.Writing.{put_of}
use Rattle.groups.specs.Groups.{groups_within, groups}
use Rattle.groups.specs.Reading.{further, valued, final, step, step_of}
use Rattle.groups.proofs.Groups.{one_group, more_groups}

module _ (g v w b : ℕ) where
  pub over : g < v + b * w → Malformed ≡ valued g v w b
  unfolding valued
  over h = simp (lt-ltb g (v + b * w) h)

  pub within : v + b * w ≤ g → Done (v + b * w) ≡ valued g v w b
  unfolding valued
  within h = simp (le-ltb g (v + b * w) h)

  -- the code's test, with no product that could be too large
  pub over_by : v ≤ g → 1 ≤ w → (g - v) / w < b → g < v + b * w
  over_by low one h = let k : g - v < b * w = (div-lt_iff_lt-mul {k = w} {x = g - v} {y = b} one).0 h in omega arith

  pub room_by : v ≤ g → 1 ≤ w → b ≤ (g - v) / w → v + b * w ≤ g
  room_by low one h = let k : b * w ≤ g - v = (le-div_iff_mul-le {k = w} {x = b} {y = g - v} one).0 h in omega arith

  pub many : g / 128 < w → Malformed ≡ further g v w b
  unfolding further
  many h = let k : g < 128 * w = omega (arith, (div-lt_iff_lt-mul {k = 128} {x = g} {y = w} (lit< tt)).0 h) in simp (lt-ltb g (128 * w) k)

  pub weight_fits : w ≤ g / 128 → 128 * w ≤ g
  weight_fits h = omega (arith, (le-div_iff_mul-le {k = 128} {x = w} {y = g} (lit< tt)).0 h)

  pub group_fits : w ≤ g / 128 → 128 ≤ b → b < 256 → v < w → v + (b - 128) * w < 128 * w
  group_fits h low high below = let k : (b - 128) * w ≤ 127 * w = mul-le-mul_right w (omega arith) in omega arith

  pub on : w ≤ g / 128 → GoesOn (v + (b - 128) * w) (128 * w) ≡ further g v w b
  unfolding further
  on h = simp (le-ltb g (128 * w) (weight_fits h))

  pub zero_last_lem : b ≡ 0 → 1 < w → Malformed ≡ final g v w b
  unfolding final
  zero_last_lem z after = simp (eq-eqb b 0 z, lt-ltb 1 w after)

  pub zero_first : b ≡ 0 → w ≤ 1 → valued g v w 0 ≡ final g v w b
  unfolding final
  zero_first z first = simp (eq-eqb b 0 z, le-ltb 1 w first) (ap (valued g v w) (sym z))

  pub some_last : (b ≡ 0 → ⊥) → valued g v w b ≡ final g v w b
  unfolding final
  some_last n = simp (ne_eqb b 0 n)

  pub step_low : v < w → b < 128 → final g v w b ≡ step_of g v w b
  unfolding step
  step_low state low = simp (lt-ltb v w state, lt-ltb b 128 low)

  pub step_high : v < w → 128 ≤ b → further g v w b ≡ step_of g v w b
  unfolding step
  step_high state high = simp (lt-ltb v w state, le-ltb b 128 high)

  pub no_state : w ≤ v → Malformed ≡ step_of g v w b
  no_state h = simp (le-ltb v w h)

-- ---- writing

within_length : (k n : ℕ) → length (groups_within k n) ≤ k
unfolding groups_within
within_length zero n = omega arith
within_length (suc k) n = by_test (ltb n 128) (λ t. simp t (omega arith)) (λ t. simp t (let h = within_length k (n / 128) in omega arith))

pub groups_few : (n : ℕ) → length (groups n) ≤ n + 1
unfolding groups
groups_few n = omega (arith, within_length (suc n) n)

pub one_long : (n : ℕ) → n < 128 → 1 ≡ length (groups n)
one_long n h = sym (ap length (one_group n h))

pub more_long : (n : ℕ) → 128 ≤ n → length (groups (n / 128)) + 1 ≡ length (groups n)
more_long n h = let e : length (groups n) ≡ suc (length (groups (n / 128))) = ap length (more_groups n h) in omega arith

-- one byte stored, and the others behind it
pub put_more : (d : List ℕ) (at b : ℕ) (vs : List ℕ) → at < length d → pasted (set d at b) (at + 1) vs ≡ pasted d at (b ∷ vs)
put_more d at b vs h =
    ap (λ (l : List ℕ). pasted l (at + 1) vs) (set_pasted d at b h) ∙ pasted_append d at 1 (b ∷ []) vs refl (omega arith)

pub put_last : (d : List ℕ) (at n b : ℕ) → n < 128 → at + length (groups n) ≤ length d → b ≡ n % 128 → set d at b ≡ pasted d at (groups n)
put_last d at n b low room e =
    let one = one_long n low in
    ap (set d at) (e ∙ mod-eq_of_lt low) ∙ set_pasted d at n (omega arith) ∙ ap (pasted d at) (sym (one_group n low))

pub put_rest : (d : List ℕ) (at n b : ℕ) → 128 ≤ n → at + length (groups n) ≤ length d → b ≡ n % 128
    → pasted (set d at (b + 128)) (at + 1) (groups (n / 128)) ≡ pasted d at (groups n)
put_rest d at n b high room e =
    let more = more_long n high in
    put_more d at (b + 128) (groups (n / 128)) (omega arith)
    ∙ ap (λ (x : ℕ). pasted d at ((x + 128) ∷ groups (n / 128))) e
    ∙ ap (pasted d at) (sym (more_groups n high))

-- ---- all or nothing

module _ (n at k : ℕ) (out : List ℕ) (counted : k ≡ length (groups n)) where
  pub put_room : {after : List ℕ} → fits_in (length out) at k ≡ true → after ≡ pasted out at (groups n) → (written_row (Ok k), after) ≡ put_of n at out
  unfolding put_of written_row
  put_room {after} room after_is =
      simp (ap (fits_in (length out) at) (sym counted) ∙ room) (ap₂ (λ (x : ℕ) (l : List ℕ). (wrote_row x, l)) counted after_is)

  pub put_none : fits_in (length out) at k ≡ false → (written_row (Err BufferOverflow), out) ≡ put_of n at out
  unfolding put_of written_row
  put_none none = simp (ap (fits_in (length out) at) (sym counted) ∙ none)
