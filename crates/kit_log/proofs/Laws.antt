-- What logs are for (RULES 16.10): reading what was written gives the entries; an accepted log written again is that log; the same entries always have the
-- same bytes.
-- Assumes nothing.
use mathlib.Core.Path.{◌≡◌, refl, sym, ap, ◌∙◌, subst}
use mathlib.Core.List.{List, [], ◌∷◌, ◌++◌, append_assoc, append-nil}
use Prim.Native.Nat.{ℕ}
use native.Mathlib.Omega.{arith}
use borrow.Author.Tests.{eqb-true}
use lib.Dec.{eqb}
use lib.ListN.{length, length-append}
use Rattle.base.specs.Bytes.{Bytes}
use Rattle.base.proofs.Tests.{by_test}
use Rattle.groups.specs.Groups.{groups, groups_within}
use Rattle.groups.specs.Reading.{unfinished, run}
use Rattle.groups.proofs.Reading.{not_begun}
use Rattle.refusals.specs.declared.Refusal.{Refusal}
use Rattle.kit_log.specs.Entry.{Entry, greatest, AllSound, entry_bytes, entries_bytes, log_bytes}
use Rattle.kit_log.specs.Reading.{seconds, State, number, refused, ended, boundary, Reading, reading, finish}
use Rattle.kit_log.specs.Strings.{Behind, whole, in_seconds, bad_seconds, in_size, bad_size, not_size, in_frame, bad_frame, Reads, one, in_version, bad_version, not_one}
use Rattle.kit_log.proofs.Agrees.{only, agrees}

-- the caller may end the log here
abbrev pub Accepted : List ℕ → Type 0
Accepted s = finish (reading s).state ≡ ended

-- ---- what was written is read

entries_behind : (es : List Entry) → AllSound es → Behind (entries_bytes es) es boundary (length (entries_bytes es))
unfolding entries_bytes run
entries_behind [] sound = in_seconds [] 0 1 refl
entries_behind (e ∷ es) sound =
    subst (Behind (entry_bytes e ++ entries_bytes es) (e ∷ es) boundary) (sym (length-append (entry_bytes e) (entries_bytes es)))
    (whole e sound.0 (entries_behind es sound.1))

pub written_read : (es : List Entry) → AllSound es → reading (log_bytes es) ≡ record { entries = es; state = boundary; taken = length (log_bytes es) }
unfolding log_bytes
written_read es sound =
    only (subst (Reads (groups 1 ++ entries_bytes es) es boundary) (sym (length-append (groups 1) (entries_bytes es))) (one (entries_behind es sound)))

pub written_accepted : (es : List Entry) → AllSound es → Accepted (log_bytes es)
unfolding finish
written_accepted es sound = ap (λ (r : Reading). finish r.state) (written_read es sound)

-- ---- what is accepted was written so

never : {r : Refusal} → refused r ≡ ended → ⊥
never e = let z : ◌≡◌ {A = ℕ} 0 1 = cc in omega arith

at_boundary : (v w : ℕ) → finish (number seconds v w) ≡ ended → w ≡ 1
unfolding finish
at_boundary v w e = by_test (eqb w 1) (λ t. eqb-true w 1 t) (λ t. absurd (never (simp t at e)))

behind_written : {s : List ℕ} {es : List Entry} {st : State} {k : ℕ} → Behind s es st k → finish st ≡ ended → (s ≡ entries_bytes es) × AllSound es
unfolding finish entries_bytes
behind_written (whole e sound b) f =
    let r = behind_written b f in
    (ap (λ (l : List ℕ). entry_bytes e ++ l) r.0, (sound, r.1))
behind_written (in_seconds s v w e) f = (not_begun greatest s v (e ∙ ap (unfinished v) (at_boundary v w f)), tt)
behind_written (bad_seconds s rest e) f = absurd (never f)
behind_written (in_size t s v w p e) f = absurd (never f)
behind_written (bad_size t s rest p e) f = absurd (never f)
behind_written (not_size t n rest p q h) f = absurd (never f)
behind_written (in_frame t n h p low high b short) f = absurd (never f)
behind_written (bad_frame t n h b rest p low high begins short none) f = absurd (never f)

reads_written : {s : List ℕ} {es : List Entry} {st : State} {k : ℕ} → Reads s es st k → finish st ≡ ended → (s ≡ log_bytes es) × AllSound es
unfolding finish log_bytes
reads_written (one b) f = let r = behind_written b f in (ap (λ (l : List ℕ). groups 1 ++ l) r.0, r.1)
reads_written (in_version s v w e) f = absurd (never f)
reads_written (bad_version s rest e) f = absurd (never f)
reads_written (not_one n rest p other) f = absurd (never f)

-- an accepted log written again is that log
pub accepted_written : (s : List ℕ) → Bytes s → Accepted s → (s ≡ log_bytes (reading s).entries) × AllSound (reading s).entries
accepted_written s bytes a = reads_written (agrees s bytes) a

-- the same entries always have the same bytes
pub same_bytes_lem : (s t : List ℕ) → Bytes s → Bytes t → Accepted s → Accepted t → (reading s).entries ≡ (reading t).entries → s ≡ t
same_bytes_lem s t bs bt a b e = (accepted_written s bs a).0 ∙ ap log_bytes e ∙ sym (accepted_written t bt b).0

-- and logs that are written the same have the same entries
pub same_entries : (es fs : List Entry) → AllSound es → AllSound fs → log_bytes es ≡ log_bytes fs → es ≡ fs
same_entries es fs a b e = ap (λ (r : Reading). r.entries) (sym (written_read es a) ∙ ap reading e ∙ written_read fs b)

-- a log grows by one entry at its end: so one that is written entry by entry is the log of its entries
grown : (es : List Entry) (e : Entry) → entries_bytes (es ++ e ∷ []) ≡ entries_bytes es ++ entry_bytes e
unfolding entries_bytes
grown [] e = append-nil (entry_bytes e)
grown (x ∷ es) e = ap (λ (l : List ℕ). entry_bytes x ++ l) (grown es e) ∙ sym (append_assoc (entry_bytes x) (entries_bytes es) (entry_bytes e))

pub one_more : (es : List Entry) (e : Entry) → log_bytes (es ++ e ∷ []) ≡ log_bytes es ++ entry_bytes e
unfolding log_bytes
one_more es e = ap (λ (l : List ℕ). groups 1 ++ l) (grown es e) ∙ sym (append_assoc (groups 1) (entries_bytes es) (entry_bytes e))

-- an empty log is the number 1 alone
pub empty_log : log_bytes [] ≡ 1 ∷ []
unfolding log_bytes entries_bytes groups groups_within
empty_log = refl
