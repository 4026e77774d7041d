-- Each public promise that is an equation leaves one answer. What a read brings and what the arguments are is outside any contract.
-- Assumes nothing.
use mathlib.Core.Bool.{Bool}
use Prim.Native.Nat.{ℕ}
use Rattle.base.proofs.Unique.{OneAnswer, same}
use Rattle.program.specs.declared.argument.Asked.{Asked}
use Rattle.program.proofs.after_print.Reads as after-print
use Rattle.program.proofs.argument.asked_by.Reads as asked_by
use Rattle.program.proofs.words.is_option.Reads as is-option

pub is_option_one : OneAnswer {Seen = Bool} is-option.Post (λ κs r s. r)
is_option_one κs a r r' s s' = same

pub after_print_one : OneAnswer {Seen = ℕ} after-print.Post (λ κs r s. r)
after_print_one κs a r r' s s' p q = same p.0 q.0

pub asked_by_one : OneAnswer {Seen = Asked} asked_by.Post (λ κs r s. r)
asked_by_one κs a r r' s s' = same
