-- The lent forms: what each contract states, in every model, and that this leaves one answer and one parser at exit.
-- A weaker `ensures` breaks its line. Assumes nothing.
use mathlib.Core.Path.{◌≡◌, refl}
use mathlib.Core.List.{List}
use Prim.Native.Nat.{ℕ}
use lib.ListN.{length}
use Rattle.reading.specs.Reading.{limit}
use seplogic.Ra.Ura.{Ura}
use base.Logic.{SProp}
use prog.Memory.{Memory}
use prog.Routine.{Routine}
use types.Logic.{Logic}
use contract.Lifetimes.{Lfts}
use contract.Monad.{Fun, fact}
use Rattle.base.proofs.Unique.{same}
use Rattle.numbered.specs.declared.Answered.{Answered}
use Rattle.parser.specs.declared.CrsfParser.{CrsfParser}
use Rattle.parser.specs.Parser.{reset_of, held_count, position_of, places_of, stepped, seen_of, Nexts}
use Rattle.parser.proofs.Unique.{seen_once}
use Rattle.parser.specs.contracts.CrsfParser.reset as reset
use Rattle.parser.specs.contracts.CrsfParser.next_raw_packet as next
use Rattle.parser.specs.contracts.CrsfParser.held_len as held-len
use Rattle.parser.specs.contracts.CrsfParser.position as position
use Rattle.parser.specs.contracts.CrsfParser.places as places

-- the promises
abbrev Resets : CrsfParser → CrsfParser → Type 0
Resets p q = q ≡ reset_of p

abbrev NextsTo : CrsfParser → List ℕ → CrsfParser → Answered → Type 0
NextsTo p input q a = Nexts p input (stepped q a)

abbrev Holds : CrsfParser → ℕ → Type 0
Holds p n = n ≡ held_count p

abbrev IsAt : CrsfParser → ℕ → Type 0
IsAt p n = n ≡ position_of p

abbrev AtPlaces : CrsfParser → List ℕ → Type 0
AtPlaces p places = places ≡ places_of p

module _ {M : Type 1} {𝓤 : Ura M} (𝓛 : Logic 𝓤) (mem : Memory → SProp 𝓤) (run : Routine → Fun 𝓤) where
  pub reset_states : (κs : Lfts 1) (a : _) (r : _) (s : _) → (reset.clauses 𝓛 mem run κs a).ensures tt r s ≡ fact 𝓤 (Resets a.0.now s.0.now)
  reset_states κs a r s = refl

  pub next_states : (κs : Lfts 2) (a : _) (r : Answered) (s : _)
      → (next.clauses 𝓛 mem run κs a).ensures tt r s ≡ fact 𝓤 (NextsTo a.0.now a.1.0.now s.0.now r)
  next_states κs a r s = refl

  pub held_len_states : (κs : Lfts 1) (a : _) (r : ℕ) (s : _) → (held-len.clauses 𝓛 mem run κs a).ensures tt r s ≡ fact 𝓤 (Holds a.0.now r)
  held_len_states κs a r s = refl

  pub position_states : (κs : Lfts 1) (a : _) (r : ℕ) (s : _) → (position.clauses 𝓛 mem run κs a).ensures tt r s ≡ fact 𝓤 (IsAt a.0.now r)
  position_states κs a r s = refl

  pub places_states : (κs : Lfts 1) (a : _) (r : _) (s : _) → (places.clauses 𝓛 mem run κs a).ensures tt r s ≡ fact 𝓤 (AtPlaces a.0.now r.now)
  places_states κs a r s = refl

-- two parsers at exit, and two results, that these allow
module _ (p : CrsfParser) where
  pub lent_reset_one : (q q' : CrsfParser) → Resets p q → Resets p q' → q ≡ q'
  lent_reset_one q q' = same

  pub lent_held_len_one : (n n' : ℕ) → Holds p n → Holds p n' → n ≡ n'
  lent_held_len_one n n' = same

  pub lent_position_one : (n n' : ℕ) → IsAt p n → IsAt p n' → n ≡ n'
  lent_position_one n n' = same

  pub lent_places_one : (l l' : List ℕ) → AtPlaces p l → AtPlaces p l' → l ≡ l'
  lent_places_one l l' = same

  pub lent_next_one : (input : List ℕ) (q q' : CrsfParser) (a a' : Answered) → length p.buffer ≡ limit → NextsTo p input q a
      → NextsTo p input q' a' → seen_of (stepped q a) ≡ seen_of (stepped q' a')
  lent_next_one input q q' a a' = seen_once p input
