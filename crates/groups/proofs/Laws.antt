-- What the code's answers mean: the number at the front of a string and what stands behind it; a number that is written, and read again.
-- Assumes nothing.
use Rattle.std.specs.Prelude.{Ok, Err}
use mathlib.Core.Path.{◌≡◌, refl, sym, ap, ap₂, ◌∙◌}
use mathlib.Core.List.{List, [], ◌∷◌, ◌++◌}
use Prim.Native.Nat.{ℕ, suc, ◌+◌, ◌-◌, ◌≤◌}
use native.Mathlib.Nat.{zero-add}
use native.Mathlib.Omega.{arith}
use borrow.Author.Tests.{le-leb}
use lib.ListN.{length, drop, length-append, length-drop}
use Rattle.base.specs.Parts.{pasted}
use Rattle.writing.specs.Writing.{bytes, write_of}
use Rattle.groups.specs.Groups.{groups}
use Rattle.groups.specs.Writing.{put_of}
use Rattle.groups.specs.declared.Step.{Step}
use Rattle.groups.specs.Reading.{step, NumberRead, unfinished, ends, malformed, run, read, Front, front_of, numbered}
use Rattle.groups.proofs.Reading.{Case, on, many, zero_last, large, last, cases, run_on, run_done, run_bad, same_end, not_unfinished, not_malformed, written_reads}

-- ---- what stands behind a number is the rest of the string

pub record Behind (g : ℕ) (s : List ℕ) (n : ℕ) (rest : List ℕ) : Type 0 where
  pub small : n ≤ g
  pub size : ℕ
  pub some : 1 ≤ size
  pub inside : size ≤ length s
  pub behind : rest ≡ drop size s

rest_from : (g v w : ℕ) (s : List ℕ) (n : ℕ) (t : List ℕ) → 1 ≤ w → run g v w s ≡ ends n t → Behind g s n t
unfolding run
rest_from g v w [] n t one e = absurd (not_unfinished e)
rest_from g v w (b ∷ s) n t one e = by (step g v w b) (cases g v w b) refl (λ v' w'. rest_from g v' w' s n t)
  where
    by : (x : Step) → Case g v w b x → step g v w b ≡ x → ((v' w' : ℕ) → 1 ≤ w' → run g v' w' s ≡ ends n t → Behind g s n t) → Behind g (b ∷ s) n t
    by x (last low form small) q more =
        let r = same_end (sym (run_done g v w b s q) ∙ e) in
        record { small = rw (← r.0) small; size = 1; some = omega arith; inside = omega arith; behind = sym r.1 }
    by x (on high room) q more =
        let a = more _ _ (omega arith) (sym (run_on g v w b s q) ∙ e) in
        record { small = a.small; size = suc a.size; some = omega arith; inside = omega (arith, a.inside); behind = a.behind }
    by x (many high none) q more = absurd (not_malformed (sym (run_bad g v w b s q) ∙ e))
    by x (zero_last low after z) q more = absurd (not_malformed (sym (run_bad g v w b s q) ∙ e))
    by x (large low form much) q more = absurd (not_malformed (sym (run_bad g v w b s q) ∙ e))

pub rest_of : (g : ℕ) (s : List ℕ) {n : ℕ} {t : List ℕ} → read g s ≡ ends n t → Behind g s n t
rest_of g s {n} {t} e = rest_from g 0 1 s n t (omega arith) e

-- ---- what the code says of the front

pub record Found (g : ℕ) (s : List ℕ) (n size : ℕ) : Type 0 where
  pub some : 1 ≤ size
  pub inside : size ≤ length s
  pub reading : read g s ≡ ends n (drop size s)

value_of : Front → ℕ
value_of (Ok number) = number.value
value_of (Err fault) = 0

size_of : Front → ℕ
size_of (Ok number) = number.size
size_of (Err fault) = 0

module _ (g : ℕ) (s : List ℕ) where
  pub found : {n size : ℕ} → numbered n size ≡ front_of (length s) (read g s) → Found g s n size
  unfolding front_of value_of size_of
  found {n} {size} = by (read g s) refl
    where
      by : (r : NumberRead) → read g s ≡ r → numbered n size ≡ front_of (length s) r → Found g s n size
      by (ends k t) e q =
          let b = rest_of g s e in
          let number : k ≡ n = sym (ap value_of q) in
          let left : length t ≡ length s - b.size = ap length b.behind ∙ length-drop b.size s in
          let counted : size ≡ length s - length t = ap size_of q in
          let same : b.size ≡ size = omega (arith, b.inside) in
          record {
            some = omega (arith, b.some);
            inside = omega (arith, b.inside);
            reading = e ∙ ap₂ ends number (b.behind ∙ ap (λ (m : ℕ). drop m s) same);
          }
      by (unfinished v w) e q = absurd (let z : ◌≡◌ {A = ℕ} 0 1 = cc in omega arith)
      by (malformed t) e q = absurd (let z : ◌≡◌ {A = ℕ} 0 1 = cc in omega arith)

-- the code reads what was written, and says how many bytes that is
pub front_written : (g n : ℕ) (t : List ℕ) → n ≤ g → front_of (length (groups n ++ t)) (read g (groups n ++ t)) ≡ numbered n (length (groups n))
unfolding front_of
front_written g n t small =
    ap (front_of (length (groups n ++ t))) (written_reads g n t small)
    ∙ ap (λ (k : ℕ). numbered n k) (rw (length-append (groups n) t) (omega arith))

-- ---- what was written

module _ (n at : ℕ) (out : List ℕ) where
  -- where there is room, all of it
  pub put_fits : {row after : List ℕ} → at + length (groups n) ≤ length out → (row, after) ≡ put_of n at out → after ≡ pasted out at (groups n)
  unfolding put_of
  put_fits {row} {after} room e =
      ap (λ (x : List ℕ × List ℕ). x.1) (simp (le-leb (at + length (groups n)) (length out) room) at e)

-- at the front of a buffer it is the write of the number's bytes
pub put_front : (n : ℕ) (out : List ℕ) → put_of n 0 out ≡ write_of (bytes (groups n)) out
unfolding put_of write_of
put_front n out = simp (zero-add)
