-- The reading is what specs/Strings says: `only`, that nothing else is said of a string, and `agrees`, that this is said of every string of bytes.
-- Assumes nothing.
use mathlib.Core.Path.{◌≡◌, refl, sym, ap, ap₂, ◌∙◌, subst}
use mathlib.Core.Bool.{Bool, true, false}
use mathlib.Core.Logic.{◌⊎◌, inl, inr, ⊎_elim}
use mathlib.Core.List.{List, [], ◌∷◌, ◌++◌, append_assoc, append-nil}
use Prim.Native.Nat.{ℕ, zero, suc, ◌+◌, ◌-◌, ◌≤◌, ◌<◌}
use native.Mathlib.Omega.{arith}
use borrow.Author.Tests.{lt-ltb, le-ltb, le-leb, lt-leb, eqb-true, eqb-false, ne_eqb}
use lib.Dec.{leb, eqb, lit≤}
use lib.ListN.{length, get_or, take, length-append}
use lib.Seq.{take-suc, take_all, length-take-le, get_or-append-add}
use Rattle.base.specs.Bytes.{Bytes}
use Rattle.base.proofs.Tests.{by_test, below}
use Rattle.packets.specs.Listed.{listed}
use Rattle.refusals.specs.declared.Refusal.TheVariants.{InvalidLog, InvalidFrame}
use Rattle.reading.specs.Reading.{limit}
use Rattle.reading.specs.Frame.{Valid}
use Rattle.reading.proofs.Frame.{Shape, valid_shape, shape_valid}
use Rattle.groups.specs.Groups.{groups}
use Rattle.groups.specs.Reading.{NumberRead, unfinished, ends, malformed, read}
use Rattle.groups.proofs.Groups.{some_group}
use Rattle.groups.proofs.Reading.{read_written}
use Rattle.kit_log.specs.Entry.{Entry, greatest, Sound, entry_bytes}
use Rattle.kit_log.specs.Reading.{version, seconds, size, State, number, frame, refused, boundary, Fed, on, entry, meaning, fine, feed_frame, feed, takes, after, answered, Reading, before, read_from, reading}
use Rattle.kit_log.specs.Strings.{Begins, Behind, whole, in_seconds, bad_seconds, in_size, bad_size, not_size, in_frame, bad_frame, Reads, one, in_version, bad_version, not_one}
use Rattle.kit_log.proofs.Reading.{reading_is, before_before, before_nil, stays_refused}
use Rattle.kit_log.proofs.Frames.{begins_fine, fine_begins}
use Rattle.kit_log.proofs.Numbers.{inside, bad, number_written}

-- ---- what a number means

pub one_means : meaning version 1 ≡ boundary
unfolding meaning
one_means = refl

not_one_lem : (n : ℕ) → (n ≡ 1 → ⊥) → meaning version n ≡ refused InvalidLog
unfolding meaning
not_one_lem n h = simp (ne_eqb n 1 h)

pub seconds_mean : (t : ℕ) → meaning seconds t ≡ number (size t) 0 1
unfolding meaning
seconds_mean t = refl

pub size_means : (t n : ℕ) → 4 ≤ n → n ≤ limit → meaning (size t) n ≡ frame t n []
unfolding meaning
size_means t n low high = simp (le-leb 4 n low, le-leb n limit high)

pub no_size : (t n : ℕ) → (n < 4) ⊎ (limit < n) → meaning (size t) n ≡ refused InvalidFrame
unfolding meaning
no_size t n h =
    ⊎_elim (λ (l : n < 4). simp (lt-leb 4 n l))
    (λ (g : limit < n). by_test (leb 4 n) (λ e. simp (e, lt-leb n limit g)) (λ e. simp e))
    h

-- ---- frames

pub begins_front : (n : ℕ) (h q : List ℕ) → Begins n (h ++ q) → Begins n h
begins_front n h q b =
    let e = append_assoc h q b.rest in
    record { rest = q ++ b.rest; valid = rw e at b.valid; long = ap length (sym e) ∙ b.long }

module _ (t n : ℕ) (h : List ℕ) where
  pub feed_part : fine n h ≡ true → length h < n → feed_frame t n h ≡ on (frame t n h)
  unfolding feed_frame
  feed_part f short = simp (f, lt-ltb (length h) n short)

  pub feed_whole : fine n h ≡ true → n ≤ length h → feed_frame t n h ≡ entry (record { seconds = t; frame = h })
  unfolding feed_frame
  feed_whole f all = simp (f, le-ltb (length h) n all)

  pub feed_bad : fine n h ≡ false → feed_frame t n h ≡ on (refused InvalidFrame)
  unfolding feed_frame
  feed_bad f = simp f

pub snoc : (h : List ℕ) (b : ℕ) → length (h ++ b ∷ []) ≡ length h + 1
snoc h b = length-append h (b ∷ [])

module _ (t n : ℕ) (h : List ℕ) (b : ℕ) (s : List ℕ) where
  fed : (f : Fed) → feed_frame t n (h ++ b ∷ []) ≡ f → read_from (frame t n h) (b ∷ s) ≡ before (answered f) 1 (read_from (after f) s)
  unfolding read_from feed takes
  fed f e = ap (λ (x : Fed). before (answered x) 1 (read_from (after x) s)) e

-- bytes that begin a frame are held
frame_on : (t n : ℕ) (h q s : List ℕ) → Begins n (h ++ q) → length (h ++ q) < n
    → read_from (frame t n h) (q ++ s) ≡ before [] (length q) (read_from (frame t n (h ++ q)) s)
unfolding after answered
frame_on t n h [] s b short = rw append-nil (sym (before_nil (read_from (frame t n h) s)))
frame_on t n h (x ∷ q) s b short =
    let h' = h ++ x ∷ [] in
    let e : h' ++ q ≡ h ++ x ∷ q = append_assoc h (x ∷ []) q in
    let b' : Begins n (h' ++ q) = subst (Begins n) (sym e) b in
    let k : length (h' ++ q) < n = rw e short in
    let f = begins_fine n h' (omega (arith, snoc h x)) (begins_front n h' q b') in
    fed t n h x (q ++ s) (on (frame t n h')) (feed_part t n h' f (omega (arith, length-append h' q)))
    ∙ ap (before [] 1) (frame_on t n h' q s b' k)
    ∙ before_before [] [] 1 (length q) (read_from (frame t n (h' ++ q)) s)
    ∙ ap₂ (λ (j : ℕ) (l : List ℕ). before [] j (read_from (frame t n l) s)) (omega arith) e

frame_all : (t : ℕ) (c s : List ℕ) → Shape limit c → read_from (frame t (length c) []) (c ++ s) ≡ before (record { seconds = t; frame = c } ∷ []) (length c) (read_from boundary s)
unfolding after answered
frame_all t c s w =
    let n = length c in
    let k = n - 1 in
    let low = w.four in
    let p = take k c in
    let x = get_or c k 0 in
    let split : p ++ x ∷ [] ≡ c = sym (take-suc c k 0 (omega arith)) ∙ take_all (suc k) c (omega arith) in
    let size : length p ≡ k = length-take-le k c (omega arith) in
    let valid = shape_valid limit c w in
    let b : Begins n p = record { rest = x ∷ []; valid = rw split valid; long = ap length split } in
    let full : Begins n (p ++ x ∷ []) = record { rest = []; valid = rw (append-nil, split) valid; long = ap length (append-nil (p ++ x ∷ []) ∙ split) } in
    let f = begins_fine n (p ++ x ∷ []) (omega (arith, snoc p x)) full in
    let e : Entry = record { seconds = t; frame = c } in
    ap (λ (l : List ℕ). read_from (frame t n []) (l ++ s)) (sym split)
    ∙ ap (read_from (frame t n [])) (append_assoc p (x ∷ []) s)
    ∙ frame_on t n [] p (x ∷ s) b (omega arith)
    ∙ ap (before [] (length p))
    (fed t n p x s (entry (record { seconds = t; frame = p ++ x ∷ [] })) (feed_whole t n (p ++ x ∷ []) f (omega (arith, snoc p x)))
    ∙ ap (λ (l : List ℕ). before (record { seconds = t; frame = l } ∷ []) 1 (read_from boundary s)) split)
    ∙ before_before [] (e ∷ []) (length p) 1 (read_from boundary s)
    ∙ ap (λ (j : ℕ). before (e ∷ []) j (read_from boundary s)) (omega arith)

-- ---- nothing else is said of a string

-- two numbers and then something
two_numbers : (t n : ℕ) (s : List ℕ) → t ≤ greatest → n ≤ greatest
    → read_from boundary (groups t ++ (groups n ++ s)) ≡ before [] (length (groups t) + length (groups n)) (read_from (meaning (size t) n) s)
two_numbers t n s p q =
    number_written seconds t (groups n ++ s) p
    ∙ ap (λ (st : State). before [] (length (groups t)) (read_from st (groups n ++ s))) (seconds_mean t)
    ∙ ap (before [] (length (groups t))) (number_written (size t) n s q)
    ∙ before_before [] [] (length (groups t)) (length (groups n)) (read_from (meaning (size t) n) s)

pub entry_read : (e : Entry) (s : List ℕ) → Sound e → read_from boundary (entry_bytes e ++ s) ≡ before (e ∷ []) (length (entry_bytes e)) (read_from boundary s)
unfolding entry_bytes
entry_read e s sound =
    let c = e.frame in
    let t = e.seconds in
    let n = length c in
    let w = valid_shape limit c sound.valid in
    let long : length (groups t) + length (groups n) + n ≡ length (groups t ++ (groups n ++ c)) =
    omega (arith, length-append (groups t) (groups n ++ c), length-append (groups n) c) in
    ap (read_from boundary) (append_assoc (groups t) (groups n ++ c) s ∙ ap (λ (l : List ℕ). groups t ++ l) (append_assoc (groups n) c s))
    ∙ two_numbers t n (c ++ s) sound.small (omega (arith, w.most))
    ∙ ap (λ (st : State). before [] (length (groups t) + length (groups n)) (read_from st (c ++ s))) (size_means t n w.four w.most)
    ∙ ap (before [] (length (groups t) + length (groups n))) (frame_all t c s w)
    ∙ before_before [] (e ∷ []) (length (groups t) + length (groups n)) n (read_from boundary s)
    ∙ ap (λ (j : ℕ). before (e ∷ []) j (read_from boundary s)) long

entry_is : (t : ℕ) (c : List ℕ) (n : ℕ) (r : List ℕ) → length c ≡ n → entry_bytes (record { seconds = t; frame = c }) ++ r ≡ groups t ++ (groups n ++ (c ++ r))
unfolding entry_bytes
entry_is t c n r e =
    append_assoc (groups t) (groups (length c) ++ c) r
    ∙ ap (λ (l : List ℕ). groups t ++ l) (append_assoc (groups (length c)) c r)
    ∙ ap (λ (j : ℕ). groups t ++ (groups j ++ (c ++ r))) e

abbrev Is : State → List ℕ → List Entry → State → ℕ → Type 0
Is from s es st k = read_from from s ≡ record { entries = es; state = st; taken = k }

behind_only : {s : List ℕ} {es : List Entry} {st : State} {k : ℕ} → Behind s es st k → Is boundary s es st k
unfolding read_from after answered
behind_only (whole {s} e sound b) = entry_read e s sound ∙ ap (before (e ∷ []) (length (entry_bytes e))) (behind_only b)
behind_only (in_seconds s v w e) = inside seconds s v w e
behind_only (bad_seconds s rest e) = bad seconds s rest e
behind_only (in_size t s v w small e) =
    number_written seconds t s small
    ∙ ap (λ (st : State). before [] (length (groups t)) (read_from st s)) (seconds_mean t)
    ∙ ap (before [] (length (groups t))) (inside (size t) s v w e)
behind_only (bad_size t s rest small e) =
    number_written seconds t s small
    ∙ ap (λ (st : State). before [] (length (groups t)) (read_from st s)) (seconds_mean t)
    ∙ ap (before [] (length (groups t))) (bad (size t) s rest e)
behind_only (not_size t n rest p q h) =
    two_numbers t n rest p q
    ∙ ap (λ (st : State). before [] (length (groups t) + length (groups n)) (read_from st rest)) (no_size t n h)
    ∙ ap (before [] (length (groups t) + length (groups n))) (stays_refused InvalidFrame rest)
    ∙ reading_is refl (omega arith)
behind_only (in_frame t n h p low high b short) =
    two_numbers t n h p (omega arith)
    ∙ ap (λ (st : State). before [] (length (groups t) + length (groups n)) (read_from st h)) (size_means t n low high)
    ∙ ap (λ (l : List ℕ). before [] (length (groups t) + length (groups n)) (read_from (frame t n []) l)) (sym (append-nil h))
    ∙ ap (before [] (length (groups t) + length (groups n))) (frame_on t n [] h [] b short)
    ∙ reading_is refl (omega arith)
behind_only (bad_frame t n h b rest p low high begins short not-begins) =
    let h' = h ++ b ∷ [] in
    let no : fine n h' ≡ false = by_test (fine n h') (λ f. absurd (not-begins (fine_begins n h' low high (omega (arith, snoc h b)) (omega (arith, snoc h b)) f))) (λ f. f) in
    two_numbers t n (h ++ b ∷ rest) p (omega arith)
    ∙ ap (λ (st : State). before [] (length (groups t) + length (groups n)) (read_from st (h ++ b ∷ rest))) (size_means t n low high)
    ∙ ap (before [] (length (groups t) + length (groups n)))
    (frame_on t n [] h (b ∷ rest) begins short
    ∙ ap (before [] (length h)) (fed t n h b rest (on (refused InvalidFrame)) (feed_bad t n h' no) ∙ ap (before [] 1) (stays_refused InvalidFrame rest)))
    ∙ reading_is refl (omega arith)

pub only : {s : List ℕ} {es : List Entry} {st : State} {k : ℕ} → Reads s es st k → reading s ≡ record { entries = es; state = st; taken = k }
only (one {s} b) =
    number_written version 1 s (lit≤ tt)
    ∙ ap (λ (st : State). before [] (length (groups 1)) (read_from st s)) one_means
    ∙ ap (before [] (length (groups 1))) (behind_only b)
only (in_version s v w e) = inside version s v w e
only (bad_version s rest e) = bad version s rest e
only (not_one n rest small other) =
    number_written version n rest small
    ∙ ap (λ (st : State). before [] (length (groups n)) (read_from st rest)) (not_one_lem n other)
    ∙ ap (before [] (length (groups n))) (stays_refused InvalidLog rest)
    ∙ reading_is refl (omega arith)

-- ---- and this is said of every string of bytes

-- what the bytes of a frame come to, n of them being asked for: they end inside; one is wrong; or a valid frame stands there
data Scan (n : ℕ) : List ℕ → Type 0 where
  cut_off : (h : List ℕ) → Begins n h → length h < n → Scan n h
  wrong : (h : List ℕ) (b : ℕ) (rest : List ℕ) → Begins n h → length h < n → (Begins n (h ++ b ∷ []) → ⊥) → Scan n (h ++ b ∷ rest)
  stands : (c rest : List ℕ) → Valid limit c → length c ≡ n → Scan n (c ++ rest)

no_rest : (n : ℕ) (h : List ℕ) → Begins n h → length h ≡ n → Valid limit h
no_rest n h b e = rw append-nil at (subst (λ (r : List ℕ). Valid limit (h ++ r)) (none b.rest (omega (arith, length-append h b.rest, b.long))) b.valid)
  where
    none : (r : List ℕ) → length r ≤ 0 → r ≡ []
    none [] k = refl
    none (x ∷ r) k = absurd (omega arith)

scan : (n : ℕ) (h q : List ℕ) → 4 ≤ n → n ≤ limit → Begins n h → length h < n → Scan n (h ++ q)
scan n h [] low high b less = rw append-nil (cut_off h b less)
scan n h (x ∷ q) low high b short =
    let h' = h ++ x ∷ [] in
    let k = snoc h x in
    let e : h' ++ q ≡ h ++ x ∷ q = append_assoc h (x ∷ []) q in
    by_test (fine n h')
    (λ f.
    let b' = fine_begins n h' low high (omega arith) (omega arith) f in
    ⊎_elim (λ (more : length h' < n). subst (Scan n) e (scan n h' q low high b' more))
    (λ (full : n ≤ length h'). subst (Scan n) e (stands h' q (no_rest n h' b' (omega arith)) (omega arith)))
    (below (length h') n))
    (λ f. wrong h x q b short (λ (b' : Begins n h'). let z : ◌≡◌ {A = Bool} true false = sym (begins_fine n h' (omega arith) b') ∙ f in differ z))
  where
    differ : ◌≡◌ {A = Bool} true false → ⊥
    differ z = let y : ◌≡◌ {A = ℕ} 0 1 = cc in omega arith

-- before its first byte a frame of any good length may come
pub anything : (n : ℕ) → 4 ≤ n → n ≤ limit → Begins n []
unfolding listed fine
anything n low high = begins_front n [] (0 ∷ []) (fine_begins n (0 ∷ []) low high (omega arith) (omega arith) refl)

bytes_behind : (a s : List ℕ) → Bytes (a ++ s) → Bytes s
bytes_behind a s bytes i = rw get_or-append-add at (bytes (length a + i))

groups_some : (n : ℕ) (s : List ℕ) → length s < length (groups n ++ s)
groups_some n s = omega (arith, length-append (groups n) s, some_group n)

-- what is said of a string, found
data Found (s : List ℕ) : Type 0 where
  that : {es : List Entry} {st : State} {k : ℕ} → Behind s es st k → Found s

behind_entry : (e : Entry) {s : List ℕ} → Sound e → Found s → Found (entry_bytes e ++ s)
behind_entry e sound (that b) = that (whole e sound b)

found_frame : (t n : ℕ) (s : List ℕ) → t ≤ greatest → 4 ≤ n → n ≤ limit
    → ((r : List ℕ) → length r ≤ length s → Bytes r → Found r) → Bytes s → Found (groups t ++ (groups n ++ s))
found_frame t n s p low high rest bytes = by s rest bytes (scan n [] s low high (anything n low high) (omega arith))
  where
    by : (s : List ℕ) → ((r : List ℕ) → length r ≤ length s → Bytes r → Found r) → Bytes s → Scan n s → Found (groups t ++ (groups n ++ s))
    by s rest bytes (cut_off h b less) = that (in_frame t n h p low high b less)
    by s rest bytes (wrong h x r b short none) = that (bad_frame t n h x r p low high b short none)
    by s rest bytes (stands c r valid e) =
        let f = rest r (omega (arith, length-append c r)) (bytes_behind c r bytes) in
        let x : Entry = record { seconds = t; frame = c } in
        let is : entry_bytes x ++ r ≡ groups t ++ (groups n ++ (c ++ r)) = entry_is t c n r e in
        subst Found is (behind_entry x (record { small = p; valid = valid }) f)

found_size : (t : ℕ) (q : List ℕ) → t ≤ greatest → ((r : List ℕ) → length r ≤ length q → Bytes r → Found r) → Bytes q → Found (groups t ++ q)
found_size t q p rest bytes = by (read greatest q) refl
  where
    by : (x : NumberRead) → read greatest q ≡ x → Found (groups t ++ q)
    by (unfinished v w) e = that (in_size t q v w p e)
    by (malformed r) e = that (bad_size t q r p e)
    by (ends n r) e =
        let a = read_written greatest q n r bytes e in
        let is : groups t ++ (groups n ++ r) ≡ groups t ++ q = ap (λ (l : List ℕ). groups t ++ l) (sym a.0) in
        let less : length r < length q = rw a.0 (groups_some n r) in
        let bytes_r : Bytes r = bytes_behind (groups n) r (subst Bytes a.0 bytes) in
        subst Found is
        (⊎_elim (λ (low : n < 4). that (not_size t n r p a.1 (inl low)))
        (λ (low : 4 ≤ n).
        ⊎_elim (λ (high : limit < n). that (not_size t n r p a.1 (inr high)))
        (λ (high : n ≤ limit). found_frame t n r p low high (λ r' k. rest r' (omega arith)) bytes_r)
        (below limit n))
        (below n 4))

found : (k : ℕ) (s : List ℕ) → length s < k → Bytes s → Found s
found zero s h bytes = absurd (omega arith)
found (suc k) s h bytes = by (read greatest s) refl (λ r (less : length r < length s). found k r (omega arith))
  where
    by : (x : NumberRead) → read greatest s ≡ x → ((r : List ℕ) → length r < length s → Bytes r → Found r) → Found s
    by (unfinished v w) e rest = that (in_seconds s v w e)
    by (malformed r) e rest = that (bad_seconds s r e)
    by (ends t q) e rest =
        let a = read_written greatest s t q bytes e in
        let less : length q < length s = rw a.0 (groups_some t q) in
        subst Found (sym a.0) (found_size t q a.1 (λ r k. rest r (omega arith)) (bytes_behind (groups t) q (subst Bytes a.0 bytes)))

data FoundLog (s : List ℕ) : Type 0 where
  so : {es : List Entry} {st : State} {k : ℕ} → Reads s es st k → FoundLog s

behind_one : {s : List ℕ} → Found s → FoundLog (groups 1 ++ s)
behind_one (that b) = so (one b)

found_log : (s : List ℕ) → Bytes s → FoundLog s
found_log s bytes = by (read greatest s) refl
  where
    by : (x : NumberRead) → read greatest s ≡ x → FoundLog s
    by (unfinished v w) e = so (in_version s v w e)
    by (malformed r) e = so (bad_version s r e)
    by (ends n q) e =
        let a = read_written greatest s n q bytes e in
        subst FoundLog (sym a.0)
        (by_test (eqb n 1)
        (λ t.
        let f = found (suc (length q)) q (omega arith) (bytes_behind (groups n) q (subst Bytes a.0 bytes)) in
        let is : groups 1 ++ q ≡ groups n ++ q = ap (λ (j : ℕ). groups j ++ q) (sym (eqb-true n 1 t)) in
        subst FoundLog is (behind_one f))
        (λ t. so (not_one n q a.1 (eqb-false n 1 t))))

pub agrees : (s : List ℕ) → Bytes s → Reads s (reading s).entries (reading s).state (reading s).taken
agrees s bytes = by (found_log s bytes)
  where
    by : FoundLog s → Reads s (reading s).entries (reading s).state (reading s).taken
    by (so r) = subst (λ (x : Reading). Reads s x.entries x.state x.taken) (sym (only r)) r
