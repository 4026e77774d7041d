-- What each lent contract states, in every model, and that each public function's promise leaves one answer, one parser at exit and one content of
-- the buffer. A weaker `ensures` breaks its line. Assumes nothing.
use mathlib.Core.Path.{◌≡◌, refl}
use mathlib.Core.List.{List}
use Prim.Native.Nat.{ℕ}
use seplogic.Ra.Ura.{Ura}
use base.Logic.{SProp}
use prog.Memory.{Memory}
use prog.Routine.{Routine}
use types.Logic.{Logic}
use contract.Lifetimes.{Lfts}
use contract.Monad.{Fun, fact}
use Rattle.writing.specs.Writing.{Written}
use Rattle.writing.proofs.Rows.{one_write}
use Rattle.parser.specs.declared.CrsfParser.{CrsfParser}
use Rattle.saved.specs.Save.{Restored}
use Rattle.saved.specs.Lent.{Saves, Resumes}
use Rattle.saved.proofs.Rows.{one_restore}
use Rattle.saved.specs.contracts.lent.save as save
use Rattle.saved.specs.contracts.lent.restore as restore

module _ {M : Type 1} {𝓤 : Ura M} (𝓛 : Logic 𝓤) (mem : Memory → SProp 𝓤) (run : Routine → Fun 𝓤) where
  pub save_states : (κs : Lfts 2) (a : _) (r : Written) (s : _)
      → (save.clauses 𝓛 mem run κs a).ensures tt r s ≡ fact 𝓤 (Saves a.0.now a.1.0.now r s.1.0.now)
  save_states κs a r s = refl

  pub restore_states : (κs : Lfts 2) (a : _) (r : Restored) (s : _)
      → (restore.clauses 𝓛 mem run κs a).ensures tt r s ≡ fact 𝓤 (Resumes a.0.now a.1.0.now s.0.now r)
  restore_states κs a r s = refl

-- two results, two buffers and two parsers at exit that these allow
module _ (p : CrsfParser) where
  pub lent_save_one : (out : List ℕ) (r r' : Written) (after after' : List ℕ) → Saves p out r after → Saves p out r' after'
      → ◌≡◌ {A = Written × List ℕ} (r, after) (r', after')
  lent_save_one out r r' after after' = one_write

  pub lent_restore_one : (form : List ℕ) (q q' : CrsfParser) (r r' : Restored) → Resumes p form q r → Resumes p form q' r'
      → ◌≡◌ {A = Restored × CrsfParser} (r, q) (r', q')
  lent_restore_one form q q' r r' = one_restore
