-- Laws of reading a number: what was written is read and ends there; what is accepted, written again, is the same bytes; no form begins another; and
-- where too many groups are refused.
-- Assumes nothing.
use mathlib.Core.Path.{◌≡◌, refl, sym, ap, ap₂, ◌∙◌}
use mathlib.Core.Bool.{Bool, true, false, ◌&&◌}
use mathlib.Core.List.{List, [], ◌∷◌, ◌++◌, append-nil}
use Prim.Native.Nat.{ℕ, zero, suc, ◌+◌, ◌*◌, ◌-◌, ◌≤◌, ◌<◌, ◌/◌, ◌%◌, ◌^◌}
use native.Mathlib.Nat.{pow-succ', pow-le-pow_right, mul_comm, mul_assoc, mul-le-mul_right, mul-le-mul_left, add-mul, add_comm, add-mul-mod_self_right, add-mul-div_right, mod-eq_of_lt, div-eq_of_lt}
use native.Mathlib.Omega.{arith}
use borrow.Author.Tests.{ltb-true, ltb-false, lt-ltb, le-ltb, eqb-true, eqb-false}
use lib.Dec.{ltb, eqb, lit<, lit≤}
use lib.ListN.{length, get_or}
use Rattle.base.specs.Choice.{when◌then◌else◌}
use Rattle.base.specs.Bytes.{Bytes}
use Rattle.base.proofs.Tests.{by_test}
use Rattle.groups.specs.Groups.{groups, WellFormed}
use Rattle.groups.specs.declared.Step.{Step}
use Rattle.groups.specs.declared.Step.TheVariants.{GoesOn, Done, Malformed}
use Rattle.groups.specs.Reading.{further, valued, final, step, unfinished, ends, malformed, run, read}
use Rattle.groups.proofs.Groups.{low_and_rest, low_small, rest_less, one_group, more_groups}

-- ---- one step

module _ (g v w b : ℕ) where
  pub step_done : b < 128 → (1 < w → 1 ≤ b) → v + b * w ≤ g → step g v w b ≡ Done (v + b * w)
  unfolding step final valued
  step_done low form small =
      by_test (eqb b 0)
      (λ t.
      let z = eqb-true b 0 t in
      let first : ltb 1 w ≡ false = by_test (ltb 1 w) (λ u. let some = form (ltb-true 1 w u) in absurd (omega arith)) (λ u. u) in
      simp (lt-ltb b 128 low, t, first, le-ltb g (v + b * w) small))
      (λ t. simp (lt-ltb b 128 low, t, le-ltb g (v + b * w) small))

  pub step_on : 128 ≤ b → 128 * w ≤ g → step g v w b ≡ GoesOn (v + (b - 128) * w) (128 * w)
  unfolding step further
  step_on high room = simp (le-ltb b 128 high, le-ltb g (128 * w) room)

  pub step_many : 128 ≤ b → g < 128 * w → step g v w b ≡ Malformed
  unfolding step further
  step_many high none = simp (le-ltb b 128 high, lt-ltb g (128 * w) none)

  pub run_on : {v' w' : ℕ} (s : List ℕ) → step g v w b ≡ GoesOn v' w' → run g v w (b ∷ s) ≡ run g v' w' s
  unfolding run
  run_on s e = rw (e, run)

  pub run_done : {n : ℕ} (s : List ℕ) → step g v w b ≡ Done n → run g v w (b ∷ s) ≡ ends n s
  unfolding run
  run_done s e = rw (e, run)

  pub run_bad : (s : List ℕ) → step g v w b ≡ Malformed → run g v w (b ∷ s) ≡ malformed s
  unfolding run
  run_bad s e = rw (e, run)

-- ---- what was written is read

-- q groups above r, all worth w
worth : (q r v w : ℕ) → v + r * w + q * (128 * w) ≡ v + (q * 128 + r) * w
worth q r v w = rw (add-mul, ← mul_assoc) (omega arith)

read_on : (g k n v w : ℕ) (t : List ℕ) → n < k → (1 < w → 1 ≤ n) → 1 ≤ w → v + n * w ≤ g → run g v w (groups n ++ t) ≡ ends (v + n * w) t
read_on g zero n v w t fuel form one small = absurd (omega arith)
read_on g (suc k) n v w t fuel form one small =
    by_test (ltb n 128)
    (λ test.
    let low = ltb-true n 128 test in
    ap (λ (s : List ℕ). run g v w (s ++ t)) (one_group n low) ∙ run_done g v w n t (step_done g v w n low form small))
    (λ test.
    let high = ltb-false n 128 test in
    let q = n / 128 in
    let r = n % 128 in
    let split : q * 128 + r ≡ n = low_and_rest n in
    let small_r = low_small n in
    let less = rest_less n high in
    let room : 128 * w ≤ n * w = mul-le-mul_right w high in
    let off : r + 128 - 128 ≡ r = omega arith in
    let whole : v + (r + 128 - 128) * w + q * (128 * w) ≡ v + n * w =
    ap (λ (x : ℕ). v + x * w + q * (128 * w)) off ∙ worth q r v w ∙ ap (λ (x : ℕ). v + x * w) split in
    ap (λ (s : List ℕ). run g v w (s ++ t)) (more_groups n high)
    ∙ run_on g v w (r + 128) (groups q ++ t) (step_on g v w (r + 128) (omega arith) (omega arith))
    ∙ read_on g k q (v + (r + 128 - 128) * w) (128 * w) t (omega arith) (λ _. omega arith) (omega arith) (omega arith)
    ∙ ap (λ (x : ℕ). ends x t) whole)

-- reading what was written gives the number, and ends exactly behind it
pub written_reads : (g n : ℕ) (t : List ℕ) → n ≤ g → read g (groups n ++ t) ≡ ends n t
written_reads g n t small =
    let unit : 0 + n * 1 ≡ n = omega arith in
    read_on g (suc n) n 0 1 t (omega arith) (λ (h : 1 < 1). absurd (omega arith)) (omega arith) (omega arith) ∙ ap (λ (x : ℕ). ends x t) unit

-- ---- what is accepted, written again, is the same bytes

-- a step, case by case
pub data Case (g v w b : ℕ) : Step → Type 0 where
  on : 128 ≤ b → 128 * w ≤ g → Case g v w b (GoesOn (v + (b - 128) * w) (128 * w))
  many : 128 ≤ b → g < 128 * w → Case g v w b Malformed
  zero_last : b < 128 → 1 < w → b ≡ 0 → Case g v w b Malformed
  large : b < 128 → (1 < w → 1 ≤ b) → g < v + b * w → Case g v w b Malformed
  last : b < 128 → (1 < w → 1 ≤ b) → v + b * w ≤ g → Case g v w b (Done (v + b * w))

some : (b : ℕ) → (b ≡ 0 → ⊥) → 1 ≤ b
some zero n = absurd (n refl)
some (suc b) n = omega arith

-- a first group may be 0
first : (w b : ℕ) → ltb 1 w ≡ false → 1 < w → 1 ≤ b
first w b e h = let low = ltb-false 1 w e in absurd (omega arith)

by_tests : (g v w b : ℕ) (t₁ t₂ t₃ t₄ t₅ : Bool)
    → ltb b 128 ≡ t₁ → ltb 1 w ≡ t₂ → eqb b 0 ≡ t₃ → ltb g (v + b * w) ≡ t₄ → ltb g (128 * w) ≡ t₅
    → Case g v w b
    (when t₁ then when t₃ && t₂ then Malformed else when t₄ then Malformed else Done (v + b * w)
    else when t₅ then Malformed else GoesOn (v + (b - 128) * w) (128 * w))
by_tests g v w b true true true t₄ t₅ e₁ e₂ e₃ e₄ e₅ = zero_last (ltb-true _ _ e₁) (ltb-true _ _ e₂) (eqb-true _ _ e₃)
by_tests g v w b true true false true t₅ e₁ e₂ e₃ e₄ e₅ = large (ltb-true _ _ e₁) (λ _. some b (eqb-false b 0 e₃)) (ltb-true _ _ e₄)
by_tests g v w b true true false false t₅ e₁ e₂ e₃ e₄ e₅ = last (ltb-true _ _ e₁) (λ _. some b (eqb-false b 0 e₃)) (ltb-false _ _ e₄)
by_tests g v w b true false true true t₅ e₁ e₂ e₃ e₄ e₅ = large (ltb-true _ _ e₁) (first w b e₂) (ltb-true _ _ e₄)
by_tests g v w b true false false true t₅ e₁ e₂ e₃ e₄ e₅ = large (ltb-true _ _ e₁) (first w b e₂) (ltb-true _ _ e₄)
by_tests g v w b true false true false t₅ e₁ e₂ e₃ e₄ e₅ = last (ltb-true _ _ e₁) (first w b e₂) (ltb-false _ _ e₄)
by_tests g v w b true false false false t₅ e₁ e₂ e₃ e₄ e₅ = last (ltb-true _ _ e₁) (first w b e₂) (ltb-false _ _ e₄)
by_tests g v w b false t₂ t₃ t₄ true e₁ e₂ e₃ e₄ e₅ = many (ltb-false _ _ e₁) (ltb-true _ _ e₅)
by_tests g v w b false t₂ t₃ t₄ false e₁ e₂ e₃ e₄ e₅ = on (ltb-false _ _ e₁) (ltb-false _ _ e₅)

pub cases : (g v w b : ℕ) → Case g v w b (step g v w b)
unfolding step final valued further
cases g v w b = by_tests g v w b _ _ _ _ _ refl refl refl refl refl

-- what a string that is read was: the groups of some number m, whose groups are worth w and more
record Back (g v w : ℕ) (s : List ℕ) (n : ℕ) (t : List ℕ) : Type 0 where
  m : ℕ
  form : s ≡ groups m ++ t
  value : n ≡ v + m * w
  small : n ≤ g
  some : 1 < w → 1 ≤ m

pub same_end : {n m : ℕ} {s t : List ℕ} → ends n s ≡ ends m t → (n ≡ m) × (s ≡ t)
same_end e = (cc, cc)

pub not_unfinished : {v w n : ℕ} {t : List ℕ} → unfinished v w ≡ ends n t → ⊥
not_unfinished e = let z : ◌≡◌ {A = ℕ} 0 1 = cc in omega arith

pub not_malformed : {n : ℕ} {s t : List ℕ} → malformed s ≡ ends n t → ⊥
not_malformed e = let z : ◌≡◌ {A = ℕ} 0 1 = cc in omega arith

-- one group in front
joined : (b m : ℕ) → 128 ≤ b → b < 256 → 1 ≤ m → groups (b - 128 + m * 128) ≡ b ∷ groups m
joined b m high byte some =
    let k = b - 128 + m * 128 in
    let low : k % 128 ≡ b - 128 = add-mul-mod_self_right (b - 128) m 128 ∙ mod-eq_of_lt (omega arith) in
    let rest : k / 128 ≡ m = add-mul-div_right (b - 128) m (lit< tt) ∙ ap (λ (x : ℕ). x + m) (div-eq_of_lt (omega arith)) ∙ omega arith in
    let top : k % 128 + 128 ≡ b = omega arith in
    more_groups k (omega arith) ∙ ap₂ (λ (x y : ℕ). x ∷ groups y) top rest

back : (g v w : ℕ) (s : List ℕ) (n : ℕ) (t : List ℕ) → Bytes s → 1 ≤ w → run g v w s ≡ ends n t → Back g v w s n t
unfolding run
back g v w [] n t bytes one e = absurd (not_unfinished e)
back g v w (b ∷ s) n t bytes one e = by (step g v w b) (cases g v w b) refl (λ v' w'. back g v' w' s n t (λ i. bytes (suc i)))
  where
    by : (x : Step) → Case g v w b x → step g v w b ≡ x → ((v' w' : ℕ) → 1 ≤ w' → run g v' w' s ≡ ends n t → Back g v' w' s n t) → Back g v w (b ∷ s) n t
    by x (last low form small) q more =
        let r = same_end (sym (run_done g v w b s q) ∙ e) in
        record {
          m = b;
          form = ap (λ (l : List ℕ). b ∷ l) r.1 ∙ ap (λ (l : List ℕ). l ++ t) (sym (one_group b low));
          value = sym r.0;
          small = rw (← r.0) small;
          some = form;
        }
    by x (on high room) q more =
        let a = more (v + (b - 128) * w) (128 * w) (omega arith) (sym (run_on g v w b s q) ∙ e) in
        let m = a.m in
        let some : 1 ≤ m = a.some (omega arith) in
        record {
          m = b - 128 + m * 128;
          form = ap (λ (l : List ℕ). b ∷ l) a.form ∙ ap (λ (l : List ℕ). l ++ t) (sym (joined b m high (bytes 0) some));
          value = a.value ∙ worth m (b - 128) v w ∙ ap (λ (x : ℕ). v + x * w) (add_comm (m * 128) (b - 128));
          small = a.small;
          some = λ _. omega arith;
        }
    by x (many high none) q more = absurd (not_malformed (sym (run_bad g v w b s q) ∙ e))
    by x (zero_last low after z) q more = absurd (not_malformed (sym (run_bad g v w b s q) ∙ e))
    by x (large low form much) q more = absurd (not_malformed (sym (run_bad g v w b s q) ∙ e))

-- what is accepted is the number's own form, and what stands behind it
pub read_written : (g : ℕ) (s : List ℕ) (n : ℕ) (t : List ℕ) → Bytes s → read g s ≡ ends n t → (s ≡ groups n ++ t) × (n ≤ g)
read_written g s n t bytes e =
    let a = back g 0 1 s n t bytes (omega arith) e in
    let unit : a.m ≡ n = omega (arith, a.value) in
    (a.form ∙ ap (λ (k : ℕ). groups k ++ t) unit, a.small)

-- no form is a proper beginning of another
pub no_beginning : (a b : ℕ) (t : List ℕ) → groups a ++ t ≡ groups b → (a ≡ b) × (t ≡ [])
no_beginning a b t e =
    same_end
    (sym (written_reads (a + b) a t (omega arith))
    ∙ ap (read (a + b)) (e ∙ sym (append-nil (groups b)))
    ∙ written_reads (a + b) b [] (omega arith))

-- so numbers that are written the same are the same
pub same_groups : (a b : ℕ) → groups a ≡ groups b → a ≡ b
same_groups a b e = (no_beginning a b [] (append-nil (groups a) ∙ e)).0

-- ---- too many groups

-- every byte says that another group follows
abbrev pub High : List ℕ → Type 0
High s = (i : ℕ) → i < length s → 128 ≤ get_or s i 0

many_on : (g k v w : ℕ) (s t : List ℕ) → length s ≡ suc k → w * 128 ^ k ≤ g → g < w * 128 ^ suc k → High s → run g v w (s ++ t) ≡ malformed t
many_on g k v w [] t size low high all = absurd (omega arith)
many_on g zero v w (b ∷ []) t size low high all =
    let one : w * 128 ^ 1 ≡ 128 * w = mul_comm w 128 in
    run_bad g v w b t (step_many g v w b (all 0 (lit< tt)) (omega arith))
many_on g zero v w (b ∷ c ∷ s) t size low high all = absurd (omega arith)
many_on g (suc k) v w (b ∷ s) t size low high all =
    let up : (j : ℕ) → w * 128 ^ suc j ≡ 128 * w * 128 ^ j = λ j. rw (pow-succ', ← mul_assoc) (ap (λ (x : ℕ). x * 128 ^ j) (mul_comm w 128)) in
    let pos : 1 ≤ 128 ^ k = pow-le-pow_right {n = 128} (lit< tt) {i = 0} {j = k} (omega arith) in
    let room : 128 * w * 1 ≤ 128 * w * 128 ^ k = mul-le-mul_left (128 * w) pos in
    run_on g v w b (s ++ t) (step_on g v w b (all 0 (omega arith)) (omega (arith, up k)))
    ∙ many_on g k (v + (b - 128) * w) (128 * w) s t (omega arith) (omega (arith, up k)) (omega (arith, up (suc k))) (λ i h. all (suc i) (omega arith))

-- a string of k + 1 groups that all say that another follows, where k are not too many, is refused at its last byte
pub too_many : (g k : ℕ) (s t : List ℕ) → 128 ^ k ≤ g → g < 128 ^ suc k → length s ≡ suc k → High s → read g (s ++ t) ≡ malformed t
too_many g k s t low high size all = many_on g k 0 1 s t size (omega arith) (omega arith) all

-- up to 2^32 - 1: at the fifth; up to 2^64 - 1: at the tenth
pub fifth : (s t : List ℕ) → length s ≡ 5 → High s → read 4294967295 (s ++ t) ≡ malformed t
fifth s t size all = too_many 4294967295 4 s t (lit≤ tt) (lit< tt) size all

pub tenth : (s t : List ℕ) → length s ≡ 10 → High s → read 18446744073709551615 (s ++ t) ≡ malformed t
tenth s t size all = too_many 18446744073709551615 9 s t (lit≤ tt) (lit< tt) size all

-- ---- the strings that are accepted whole are the well-formed ones

pub well_formed_read : (g : ℕ) (s : List ℕ) (f : WellFormed g s) → read g s ≡ ends f.number []
well_formed_read g s f = ap (read g) (f.form ∙ sym (append-nil (groups f.number))) ∙ written_reads g f.number [] f.small

pub read_well_formed : (g : ℕ) (s : List ℕ) (n : ℕ) → Bytes s → read g s ≡ ends n [] → WellFormed g s
read_well_formed g s n bytes e =
    let a = read_written g s n [] bytes e in
    record { number = n; small = a.1; form = a.0 ∙ append-nil (groups n) }

-- ---- inside a number, the next group is worth more with each byte: so where it is worth 1, no byte has come

unfinished_not_ended : {v w n : ℕ} {t : List ℕ} → ends n t ≡ unfinished v w → ⊥
unfinished_not_ended e = let z : ◌≡◌ {A = ℕ} 0 1 = cc in omega arith

unfinished_not_malformed : {v w : ℕ} {t : List ℕ} → malformed t ≡ unfinished v w → ⊥
unfinished_not_malformed e = let z : ◌≡◌ {A = ℕ} 0 1 = cc in omega arith

weightier : (g v w : ℕ) (s : List ℕ) (v₂ w₂ : ℕ) → 1 ≤ w → run g v w s ≡ unfinished v₂ w₂ → w + length s ≤ w₂
unfolding run
weightier g v w [] v₂ w₂ one e = let same : w ≡ w₂ = cc in omega arith
weightier g v w (b ∷ s) v₂ w₂ one e = by (step g v w b) (cases g v w b) refl (λ v' w'. weightier g v' w' s v₂ w₂)
  where
    by : (x : Step) → Case g v w b x → step g v w b ≡ x → ((v' w' : ℕ) → 1 ≤ w' → run g v' w' s ≡ unfinished v₂ w₂ → w' + length s ≤ w₂) → w + length (b ∷ s) ≤ w₂
    by x (on high room) q more = let h = more (v + (b - 128) * w) (128 * w) (omega arith) (sym (run_on g v w b s q) ∙ e) in omega arith
    by x (last low form small) q more = absurd (unfinished_not_ended (sym (run_done g v w b s q) ∙ e))
    by x (many high none) q more = absurd (unfinished_not_malformed (sym (run_bad g v w b s q) ∙ e))
    by x (zero_last low after z) q more = absurd (unfinished_not_malformed (sym (run_bad g v w b s q) ∙ e))
    by x (large low form much) q more = absurd (unfinished_not_malformed (sym (run_bad g v w b s q) ∙ e))

pub not_begun : (g : ℕ) (s : List ℕ) (v : ℕ) → read g s ≡ unfinished v 1 → s ≡ []
not_begun g s v e = none s (let h = weightier g 0 1 s v 1 (omega arith) e in omega arith)
  where
    none : (r : List ℕ) → length r ≤ 0 → r ≡ []
    none [] k = refl
    none (x ∷ r) k = absurd (omega arith)

-- ---- what a step leaves

pub on_below : (g v w b v₂ w₂ : ℕ) → v < w → b < 256 → step g v w b ≡ GoesOn v₂ w₂ → v₂ < w₂
on_below g v w b v₂ w₂ state byte e = by (cases g v w b) e
  where
    by : {x : Step} → Case g v w b x → x ≡ GoesOn v₂ w₂ → v₂ < w₂
    by (on high room) q =
        let v_is : v + (b - 128) * w ≡ v₂ = cc in
        let w_is : 128 * w ≡ w₂ = cc in
        let k : (b - 128) * w ≤ 127 * w = mul-le-mul_right w (omega arith) in
        omega arith
    by (many high none) q = absurd (let z : ◌≡◌ {A = ℕ} 0 1 = cc in omega arith)
    by (zero_last low after z) q = absurd (let z : ◌≡◌ {A = ℕ} 0 1 = cc in omega arith)
    by (large low form much) q = absurd (let z : ◌≡◌ {A = ℕ} 0 1 = cc in omega arith)
    by (last low form small) q = absurd (let z : ◌≡◌ {A = ℕ} 0 1 = cc in omega arith)

pub on_weight : (g v w b v₂ w₂ : ℕ) → step g v w b ≡ GoesOn v₂ w₂ → (w₂ ≡ 128 * w) × (128 * w ≤ g)
on_weight g v w b v₂ w₂ e = by (cases g v w b) e
  where
    by : {x : Step} → Case g v w b x → x ≡ GoesOn v₂ w₂ → (w₂ ≡ 128 * w) × (128 * w ≤ g)
    by (on high room) q = (cc, room)
    by (many high none) q = absurd (let z : ◌≡◌ {A = ℕ} 0 1 = cc in omega arith)
    by (zero_last low after z) q = absurd (let z : ◌≡◌ {A = ℕ} 0 1 = cc in omega arith)
    by (large low form much) q = absurd (let z : ◌≡◌ {A = ℕ} 0 1 = cc in omega arith)
    by (last low form small) q = absurd (let z : ◌≡◌ {A = ℕ} 0 1 = cc in omega arith)

pub done_small : (g v w b n : ℕ) → step g v w b ≡ Done n → n ≤ g
done_small g v w b n e = by (cases g v w b) e
  where
    by : {x : Step} → Case g v w b x → x ≡ Done n → n ≤ g
    by (last low form small) q = let n_is : v + b * w ≡ n = cc in omega arith
    by (on high room) q = absurd (let z : ◌≡◌ {A = ℕ} 0 1 = cc in omega arith)
    by (many high none) q = absurd (let z : ◌≡◌ {A = ℕ} 0 1 = cc in omega arith)
    by (zero_last low after z) q = absurd (let z : ◌≡◌ {A = ℕ} 0 1 = cc in omega arith)
    by (large low form much) q = absurd (let z : ◌≡◌ {A = ℕ} 0 1 = cc in omega arith)
