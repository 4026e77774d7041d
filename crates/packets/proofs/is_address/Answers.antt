-- `packets::is_address` meets its contract, whatever the list: keys that follow each other are compiled to an interval, as 90 to 97 are, and at each way
-- out the definition is computed at all bytes that come that way. Single keys are found in the list, and intervals are those of the code's own tests.
-- Assumes nothing.
use mathlib.Core.Path.{◌≡◌, sym}
use mathlib.Core.Bool.{true, false, not, ◌||◌}
use mathlib.Core.List.{List, [], ◌∷◌, map}
use Prim.Native.Nat.{ℕ, suc, ◌-◌, ◌≤◌, ◌<◌}
use native.Mathlib.Omega.{arith}
use lib.Dec.{T}
use lib.Ieee.Bits.{is_true, is_false}
use mir.Val.{has_key}
use types.Run.{OneOf}
use Rattle.base.specs.Choice.{when◌then◌else◌}
use Rattle.packets.specs.Listed.{among, addresses, listed}
use Rattle.base.proofs.Every.{every, within, at_key, no_key}
use Rattle.packets.proofs.is_address.Goals as goal

abbrev lone : List ℕ → List ℕ
lone [] = []
lone (k ∷ ks) = when among (suc k) addresses || among k (map suc addresses) then lone ks else k ∷ lone ks

abbrev singles : List ℕ
singles = lone addresses

at_single : {b : ℕ} → OneOf singles b → true ≡ listed b
unfolding listed
at_single {b} key = sym (is_true (listed b) (at_key listed singles tt b key))

between : {lo hi b : ℕ} → lo ≤ b → b < hi → T (every listed lo (hi - lo)) → true ≡ listed b
between {lo} {hi} {b} low high t = sym (is_true (listed b) (within listed lo hi t b low high))

beside : {lo hi b : ℕ} → (OneOf singles b → ⊥) → lo ≤ b → b < hi → T (every (λ k. has_key singles k || not (listed k)) lo (hi - lo)) → false ≡ listed b
beside {lo} {hi} {b} none low high t =
    sym (is_false (listed b) (no_key singles b (not (listed b)) none (within (λ k. has_key singles k || not (listed k)) lo hi t b low high)))

pub returns-in_default : goal.returns-in_default
unfolding listed
returns-in_default c =
    beside {lo = 0} c.in_default.in_default-own.rest.1 (omega arith) c.in_default.if-byte-lt18-own.true tt

pub returns-in_default-2 : goal.returns-in_default-2
unfolding listed
returns-in_default-2 c =
    beside c.in_default.in_default-own.rest.1 c.in_default.if-byte-lt21-own.false c.in_default.if-byte-lt144-own.true tt

pub returns-in_default-3 : goal.returns-in_default-3
unfolding listed
returns-in_default-3 c =
    beside {hi = 256} c.in_default.in_default-own.rest.1 c.in_default.if-byte-lt152-own.false (omega arith) tt

pub returns-in-0 : goal.returns-in-0
unfolding listed
returns-in-0 c =
    at_single c.in-0.in-0-own.keys1

pub returns-in-0-2 : goal.returns-in-0-2
unfolding listed
returns-in-0-2 c =
    between c.in-0.if-byte-lt18-own.false c.in-0.if-byte-lt21-own.true tt

pub returns-in-0-3 : goal.returns-in-0-3
unfolding listed
returns-in-0-3 c =
    between c.in-0.if-byte-lt144-own.false c.in-0.if-byte-lt152-own.true tt
