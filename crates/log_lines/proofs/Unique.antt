-- Each public function's promise leaves one answer. Of a part free is only what stands in the places beside held bytes, and of a refused call nothing is.
-- Assumes nothing.
use mathlib.Core.Path.{◌≡◌}
use mathlib.Core.Bool.{Bool, true}
use mathlib.Core.List.{List}
use Prim.Native.Nat.{ℕ}
use Rattle.base.specs.Choice.{when◌then◌else◌}
use Rattle.base.proofs.Unique.{OneAnswer, same}
use Rattle.log_reader.specs.State.{is_state}
use Rattle.log_reader.specs.declared.Reader.{Reader}
use Rattle.log_lines.specs.Part.{Shown, shown_of, is_short, Lists}
use Rattle.log_lines.specs.declared.Listed.{Listed}
use Rattle.log_lines.proofs.list_part.Reads as list-part
use Rattle.log_lines.proofs.put_last.Reads as put_last

-- what a part shows; of a call that was refused for what it was lent, the reader and all places too
abbrev is_kept : List ℕ → Reader → List ℕ → List ℕ → Bool
is_kept before st part out = when is_state before st then is_short part out else true

module _ {before : List ℕ} {st : Reader} {part out : List ℕ} {places places' outAfter outAfter' : List ℕ} {r r' : Listed}
    (a : Lists before st part out places outAfter r) (b : Lists before st part out places' outAfter' r') where
  pub one_shown : shown_of places outAfter r ≡ shown_of places' outAfter' r'
  one_shown = same a.shown b.shown

  pub one_kept : is_kept before st part out ≡ true → (r.reader ≡ r'.reader) × (places ≡ places')
  one_kept k = (same (a.kept k).0 (b.kept k).0, same (a.kept k).1 (b.kept k).1)

pub list_part_one : OneAnswer {Seen = Shown} list-part.Post (λ κs r s. shown_of s.0.now s.1.1.1.0.now r)
list_part_one κs a r r' s s' = one_shown

pub put_last_one : OneAnswer {Seen = ℕ × List ℕ} put_last.Post (λ κs r s. (r, s.1.0.now))
put_last_one κs a r r' s s' = same
