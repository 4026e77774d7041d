-- The name of a file that is asked for is the argument.
-- Assumes nothing.
use mathlib.Core.Path.{◌≡◌, sym, subst}
use mathlib.Core.List.{List}
use Prim.Native.Nat.{ℕ, ◌≤◌}
use lib.ListN.{length}
use Rattle.std.specs.Borrow.{Bor}
use Rattle.base.proofs.Tests.{by_test}
use Rattle.base.specs.Same.{same_bytes}
use Rattle.program.specs.Words.{is_option, dash, help_word, version_word}
use Rattle.program.specs.declared.argument.Asked.{Asked}
use Rattle.program.specs.Answers.{asked_by, NamesWithin}

word_within : (room : ℕ) (word : Bor (List ℕ)) → length word.now ≤ room → NamesWithin room (asked_by word)
unfolding asked_by
word_within room word few =
    by_test (same_bytes word.now dash) (λ e. rw e tt)
    (λ e. rw e (by_test (same_bytes word.now help_word) (λ f. rw f tt)
    (λ f. rw f (by_test (same_bytes word.now version_word) (λ g. rw g tt)
    (λ g. rw g (by_test (is_option word.now) (λ h. rw h tt) (λ h. rw h few)))))))

pub named_within : (room : ℕ) (word : Bor (List ℕ)) {asked : Asked} → asked ≡ asked_by word → length word.now ≤ room → NamesWithin room asked
named_within room word e few = subst (NamesWithin room) (sym e) (word_within room word few)
