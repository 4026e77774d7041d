-- What a restore by value answers, from what the restore over its places answered.
-- Assumes nothing.
use Rattle.std.specs.Prelude.{Ok, Err}
use mathlib.Core.Path.{◌≡◌, sym, ap, ◌∙◌}
use mathlib.Core.Bool.{true, false}
use mathlib.Core.List.{List}
use Prim.Native.Nat.{ℕ}
use lib.ListN.{length, get_or}
use Rattle.base.specs.Parts.{pasted}
use Rattle.base.proofs.Tests.{by_test}
use Rattle.refusals.specs.Row.{row_of}
use Rattle.refusals.specs.declared.Refusal.{Refusal}
use Rattle.refusals.specs.declared.Refusal.TheVariants.{BadState}
use Rattle.refusals.proofs.Rows.{not_zero}
use Rattle.reading.specs.Reading.{limit}
use Rattle.parser.specs.declared.CrsfParser.{CrsfParser}
use Rattle.saved.specs.Form.{position_in, is_form, held_of}
use Rattle.saved.specs.Save.{held_row, restored_row, restore_of}
use Rattle.saved.specs.Parser.{resume_of}

module _ (p : CrsfParser) (form : List ℕ) (full : length p.buffer ≡ limit) where
  abbrev Left : Type 0
  Left = List ℕ × List ℕ

  at_good : is_form limit form ≡ true → restore_of form p.buffer ≡ (held_row (length (held_of limit form)), pasted p.buffer 0 (held_of limit form))
  unfolding restore_of
  at_good good = simp (full, good)

  at_bad : is_form limit form ≡ false → restore_of form p.buffer ≡ (row_of BadState, p.buffer)
  unfolding restore_of
  at_bad bad = simp (full, bad)

  resumed : {row after : List ℕ} → is_form limit form ≡ true → (row, after) ≡ restore_of form p.buffer
      → (row, record { buffer = after; start = 0; end = get_or row 1 0; position = position_in form }) ≡ resume_of p form
  unfolding resume_of
  resumed good e = ap (λ (x : Left). (x.0, record { buffer = x.1; start = 0; end = get_or x.0 1 0; position = position_in form })) (e ∙ at_good good) ∙ simp good

  pub resume_held : {n q : ℕ} {after : List ℕ} → (restored_row (Ok n), after) ≡ restore_of form p.buffer → q ≡ position_in form
      → (restored_row (Ok n), record { buffer = after; start = 0; end = n; position = q }) ≡ resume_of p form
  unfolding restored_row
  resume_held {n} {q} {after} e at =
      ap (λ (k : ℕ). (held_row n, record { buffer = after; start = 0; end = n; position = k })) at
      ∙ by_test (is_form limit form) (λ good. resumed good e) (λ bad. absurd (not_zero BadState (sym (ap (λ (x : Left). x.0) (e ∙ at_bad bad)))))

  pub resume_refused : (r : Refusal) {after : List ℕ} → (restored_row (Err r), after) ≡ restore_of form p.buffer
      → (restored_row (Err r), p) ≡ resume_of p form
  unfolding restored_row resume_of
  resume_refused r e =
      by_test (is_form limit form) (λ good. absurd (not_zero r (ap (λ (x : Left). x.0) (e ∙ at_good good))))
      (λ bad. simp bad (ap (λ (x : Left). (x.0, p)) (e ∙ at_bad bad)))
