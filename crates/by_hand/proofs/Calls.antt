-- What a walk by hand needs of the functions that are called, and of the one that is proved.
--     Result       the type of a function's result
--     returned     a call has returned: the caller has what the result owns and is, what is said of last values, the tokens, and the fact that the callee's `ensures` states
--     proved       a walk of a function's MIR, over the tables in which each callee means its own routine, is the function's theorem
-- Assumes `Logic`, but for `proved`, which holds in every model.
use mathlib.Core.List.{List, [], ◌∷◌}
use seplogic.Ra.Ura.{Ura}
use mir.Syntax.{Callee, Fn}
use mir.Val.{Val}
use base.Logic.{ent, id⊢}
use prog.Model.{Model}
use prog.Routine.{Env}
use prog.Wp.{WpFn, Closed}
use types.Logic.{Logic}
use contract.Lifetimes.{Lfts}
use contract.Monad.{fact}
use contract.Running.{Running, tables, tables_of}
use types.Kit.{Item, Goal, Seq, Soaks, ‵, raw, ◌⊛◌, some, later, ◌$◌, move, use1, split, pick, await}
use sound.WpLaws.{FmC, fm_of, WpFn-mono}
use denote.RattleType.{RattleType}
use denote.Laws.{Is, shows}
use denote.Signature.{type_at}
use denote.Steps.{peeks, heard}
use denote.Triple.Clauses.{Ended, Clauses, Lasts, at_exit, lasts, ensured, closing}
use denote.Triple.Entry.{alive}
use denote.Triple.Spec.{Meets, triple_of}
use denote.Triple.Table.{entered}
use denote.Triple.Walked.{Stays, AllGo, Walks, walk_Meets}

abbrev pub Result : (T : Ended) → Lfts T.signature.lifetimes → RattleType
Result T κs = type_at T.signature.result κs

module _ {M : Type 1} {𝓤 : Ura M} {𝓛 : Logic 𝓤} {K : Type 0} {Γ : List (Item 𝓤)} {G : Goal 𝓤 𝓛.H} where
  -- a call has returned v. φ is the fact that the callee's `ensures` states of its result and last values
  pub returned : K → Soaks G → (T : Ended) (c : Clauses 𝓤 T) (y : (triple_of 𝓛 T.signature (closing 𝓛 T c)).Ghost) (v : Val) (φ : (Result T y.0.0).Denot → Lasts T y.0.0 y.0.3 → Type 0)
      → ((r : (Result T y.0.0).Denot) (ws : Lasts T y.0.0 y.0.3) → ent 𝓤 ((c y.0.0 y.0.3).ensures y.1 r (at_exit T y.0.0 y.0.3 ws)) (fact 𝓤 (φ r ws)))
      → ((r : (Result T y.0.0).Denot) (ws : Lasts T y.0.0 y.0.3) → Is (Result T y.0.0) r (v ∷ []) → φ r ws → Seq K 𝓛 (‵ ((Result T y.0.0).own_val r (v ∷ [])) ∷ ‵ (lasts T y.0.0 y.0.3 ws) ∷ raw (alive 𝓛 T.signature y.0.0 y.0.1) ∷ Γ) G)
      → Seq K 𝓛 (raw ((triple_of 𝓛 T.signature (closing 𝓛 T c)).post y v) ∷ Γ) G
  returned t z T c y v φ states k =
      use1 𝓛 (later (some (λ (r : (Result T y.0.0).Denot). (raw (alive 𝓛 T.signature y.0.0 y.0.1) ⊛ ‵ ((Result T y.0.0).own_val r (v ∷ []))) ⊛ raw (ensured 𝓛 T c y.0.0 y.0.3 y.1 r))))
      (id⊢ 𝓤 _) $ await t z $ pick t (λ r. split t $ move t (1 ∷ []) $
      use1 𝓛 (some (λ (ws : Lasts T y.0.0 y.0.3). ‵ (lasts T y.0.0 y.0.3 ws) ⊛ raw ((c y.0.0 y.0.3).ensures y.1 r (at_exit T y.0.0 y.0.3 ws)))) (id⊢ 𝓤 _) $ pick t (λ ws. split t $ move t (1 ∷ []) $
      use1 𝓛 (raw (fact 𝓤 (φ r ws))) (states r ws) $ heard t (φ r ws) (λ e.
      -- [what is said of last values; the tokens and the result]
      move t (1 ∷ []) $ split t $ move t (1 ∷ 2 ∷ []) $ peeks t (Result T y.0.0) (Is (Result T y.0.0)) (shows 𝓛 (Result T y.0.0)) r (v ∷ []) (λ is. k r ws is e))))

-- ---- the end of a proof by hand
module _ {M : Type 1} {𝓤 : Ura M} (𝓛 : Logic 𝓤) (𝓜 : Model 𝓤 𝓛.H) (𝓡 : Running 𝓤 𝓛.H 𝓜) (T : Ended) (hs : Stays T.signature.params T.kept) (c : Clauses 𝓤 T) (γ : Env) (k : Callee) (e : Fn) where
  open 𝓛 use {H}

  pub proved : Closed 𝓤 H (tables 𝓤 H 𝓜 𝓡 γ).C (tables 𝓤 H 𝓜 𝓡 γ).Λ k e → AllGo 𝓛 T.signature.lifetimes T.signature.params T.kept hs
      → (FmC 𝓤 H 𝓛.laws (tables 𝓤 H 𝓜 𝓡 γ).C → Walks 𝓛 T hs (WpFn 𝓤 H (tables 𝓤 H 𝓜 𝓡 γ).C (tables 𝓤 H 𝓜 𝓡 γ).Λ e) c)
      → Meets 𝓛 T.signature (𝓡.run (γ k)) (closing 𝓛 T c)
  unfolding tables_of
  proved closed goes walks =
      entered 𝓤 H (triple_of 𝓛 T.signature (closing 𝓛 T c)) (tables 𝓤 H 𝓜 𝓡 γ).C (tables 𝓤 H 𝓜 𝓡 γ).Λ k e closed
      (walk_Meets 𝓛 T hs goes c (WpFn 𝓤 H (tables 𝓤 H 𝓜 𝓡 γ).C (tables 𝓤 H 𝓜 𝓡 γ).Λ e) (WpFn-mono 𝓤 H 𝓛.laws (tables_of 𝓤 H 𝓜 (tables 𝓤 H 𝓜 𝓡 γ)) e)
      (walks (fm_of 𝓤 H 𝓛.laws (tables_of 𝓤 H 𝓜 (tables 𝓤 H 𝓜 𝓡 γ)))))
