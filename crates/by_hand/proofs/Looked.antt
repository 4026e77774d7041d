-- One walk for every function of the form
--     fn f(p: &P) -> R { g(*p) }
-- where g takes a struct of plain data by value: φ is what g promises of the struct passed and its result, and f the same of the struct that is
-- lent.
--     body         f's MIR.        ByValue     the contract of g that f cites
--     looked       f meets its contract, if g meets its own
-- The borrow is looked into, the struct is copied out of its cell whole, the borrow is shut again, and g is called on the copy.
-- Assumes nothing.
use mathlib.Core.Path.{refl}
use Prim.Native.Nat.{ℕ}
use mathlib.Core.List.{[], ◌∷◌, List}
use seplogic.Ra.Ura.{Ura}
use mir.Syntax.{Callee, Fn, named, imm, ty_ref, local, value_local, place, deref, copy, rv_opd, assign, call, seq, return}
use mir.Val.{Val, vptr}
use base.Logic.{SProp, ent, emp, via, fst∗, id⊢}
use base.Fml.{Lft, Share, ftrue, flft}
use prog.Model.{Model}
use prog.Routine.{Env}
use prog.Wp.{Calls, Loops, WpFn, Closed}
use types.Logic.{Logic}
use contract.Monad.{fact}
use contract.Running.{Running, tables}
use types.Kit.{‵, raw, ◌⊛◌, ⋆, ◌$◌, ◌∵◌, !, qed, by, move, keep, drop, use0, split, join, fsplit, fjoin, feq_i, suffices, frame, done}
use types.Run.{look, look_raw, init, forget, stop, hop, from, load, and_then, no_more, of_opd, assigns, land, returns, enter, alloc1, alloc0, params1, pass1, pass0, free1, free0}
use sound.WpLaws.{FmC}
use denote.RattleType.{RattleType, owns}
use denote.Memory.{lone, pointee, hidden_shr}
use denote.Builtin.{RefOf}
use denote.Ref.{Bor, ShrRef, shr_vals, shr_Tells}
use denote.Signature.{plain}
use denote.Steps.{nothing}
use denote.Triple.Clauses.{Ended, Clauses, closing}
use denote.Triple.Statement.{Contract, Triple}
use denote.Triple.Call.{calls_at}
use denote.Triple.Entry.{on_entry}
use denote.Triple.Spec.{Meets, triple_of}
use denote.Triple.Walked.{says, Stays, stay_none_ref, walk_of, Goes-none_ref, ends_at, walked}
use denote.Exit.{yes}
use Rattle.by_hand.proofs.Structs.{PlainStruct, row_of, mir_of, val_of, Stands, typed, owns_plain}
use Rattle.by_hand.proofs.Results.{Typed}
use Rattle.by_hand.proofs.Borrows.{looks_plain, shuts_plain}
use Rattle.by_hand.proofs.Calls.{returned, proved}

module _ (P : PlainStruct) (R : RattleType) where
  abbrev pub body : Callee → Fn
  body g = record {
    lifetimes = 1;
    outlives = [];
    ty_params = [];
    givens = 0;
    params = 1;
    locals = local (lone R.mir) value_local ∷ local (ty_ref (named 0) imm (pointee (row_of P).written)) value_local ∷ local (mir_of P) value_local ∷ [];
    body = seq (assign (place 2 []) (rv_opd (copy (place 1 (deref (mir_of P) ∷ []))))) (seq (call g (copy (place 2 []) ∷ []) (place 0 [])) return);
  }

  abbrev lent_ended : Ended
  lent_ended = record {
    signature = record { lifetimes = 1; outlives = []; params = RefOf (0 ∷ []) tt (plain (λ _. row_of P)) (λ _. tt) ∷ []; result = plain (λ _. R) };
    kept = (yes, tt);
  }

  abbrev value_ended : Ended
  value_ended = record {
    signature = record { lifetimes = 0; outlives = []; params = plain (λ _. row_of P) ∷ []; result = plain (λ _. R) };
    kept = (yes, tt);
  }

  abbrev stayed : Stays lent_ended.signature.params lent_ended.kept
  stayed = (stay_none_ref (0 ∷ []) tt (plain (λ _. row_of P)) yes, tt)

  module _ (φ : P.type.D → R.Denot → Type 0) {M : Type 1} (𝓤 : Ura M) where
    abbrev lent_clauses : Clauses 𝓤 lent_ended
    lent_clauses κs a = record { ghost = Unit {0}; requires = λ _. emp 𝓤; ensures = λ _ r e. fact 𝓤 (φ a.0.now r) }

    abbrev value_clauses : Clauses 𝓤 value_ended
    value_clauses κs a = record { ghost = Unit {0}; requires = λ _. emp 𝓤; ensures = λ _ r e. fact 𝓤 (φ a.0 r) }

    abbrev pub ByValue : (𝓛 : Logic 𝓤) → Contract 𝓤
    ByValue 𝓛 = triple_of 𝓛 value_ended.signature (closing 𝓛 value_ended value_clauses)

module _ (P : PlainStruct) (R : RattleType) (T : Typed R) (φ : P.type.D → R.Denot → Type 0) where
  module _ {M : Type 1} {𝓤 : Ura M} (𝓛 : Logic 𝓤) (κ : Lft) (q : Share) (b o : ℕ) (h : P.type.D) where
    open 𝓛 use {H}

    abbrev x : Bor P.type.D × Unit {0}
    x = (record { ref_ptr = (b, o); now = h }, tt)

    abbrev at : List Val × Unit {0}
    at = (vptr b o ∷ [], tt)

    abbrev Post : Val → SProp 𝓤
    Post = (walk_of 𝓛 (lent_ended P R) (stayed P R) (lent_clauses P R φ 𝓤)).post (((κ, tt), (q, tt), tt, x, at), tt)

    exits : (r : R.Denot) (v : Val) → φ h r
        → ent 𝓤 (⋆ 𝓛 (‵ (flft κ q) ∷ ‵ (hidden_shr (row_of P) κ h b o) ∷ ‵ (R.own_val r (v ∷ [])) ∷ [])) (Post v)
    exits r v e =
        qed 𝓛 (‵ (flft κ q) ∷ ‵ (hidden_shr (row_of P) κ h b o) ∷ ‵ (R.own_val r (v ∷ [])) ∷ []) ∵
        suffices ! _ (ends_at 𝓛 (lent_ended P R) (stayed P R) (lent_clauses P R φ 𝓤) (((κ, tt), (q, tt), tt, x, at), tt) v r (tt, tt) (tt, tt)) $ says ! e $
        nothing ! $ move ! (1 ∷ 0 ∷ []) $ join ! $ frame ! $ feq_i ! (List Val) (vptr b o ∷ []) (vptr b o ∷ []) refl $ fjoin ! $ nothing ! $ move ! (1 ∷ 0 ∷ []) $ fjoin ! $ done !

    -- what g's triple binds outside, and that the caller has what it asks
    abbrev to_g : (ByValue P R φ 𝓤 𝓛).Ghost
    to_g = ((tt, tt, tt, (h, tt), (val_of P h ∷ [], tt)), tt)

    asked : Stands P h → ent 𝓤 (emp 𝓤) ((ByValue P R φ 𝓤 𝓛).pre to_g)
    asked g = qed 𝓛 [] ∵ nothing ! $ owns_plain ! P h _ g $ fjoin ! $ nothing ! $ join ! $ frame ! $ done !

    module _ (C : Calls 𝓤 H) (Λ : Loops 𝓤 H) (fm : FmC 𝓤 H 𝓛.laws C) (g : Callee) (known : Triple 𝓤 (C g) (ByValue P R φ 𝓤 𝓛)) where
      walk : ent 𝓤 (on_entry 𝓛 (lent_ended P R).signature (κ, tt) (q, tt) x at) (WpFn 𝓤 H C Λ (body P R g) (vptr b o ∷ []) Post)
      walk =
          qed 𝓛 ((‵ (flft κ q) ⊛ ‵ ftrue) ∷ ‵ (owns (ShrRef (named 0) κ (row_of P) ∷ []) x at) ∷ []) ∵ enter ! C Λ (body P R g) (vptr b o ∷ []) _ $
          alloc1 ! (λ l₀. alloc1 ! (λ l₁. alloc1 ! (λ l₂. alloc0 ! $ params1 ! $ pass1 ! (init ! 2 refl (tt, tt)) $ pass0 ! $
          move ! (7 ∷ []) $ fsplit ! $ fsplit ! $ drop ! $ move ! (8 ∷ []) $ split ! $ move ! (2 ∷ 0 ∷ []) $ looks_plain ! tt P h b o (λ q' st.
          -- [a share of the struct's cell; what shuts it; what the `&` holds; true; true; room for _2; …; _1; …; room for _0; …]
          assigns ! (of_opd ! (load ! (from ! (hop ! (look ! 7 refl) (stop !))) (look_raw ! 0 refl))) (from ! (stop !)) (init ! 5 refl (typed P 𝓛 h _ st)) $
          shuts_plain ! tt P q' h b o st $
          -- [the token; what the `&` holds; true; true; _2; …; _1; …; room for _0; …]
          use0 𝓛 (raw ((ByValue P R φ 𝓤 𝓛).pre to_g)) (asked st) $ calls_at ! fm (ByValue P R φ 𝓤 𝓛) known to_g (and_then ! (load ! (from ! (stop !)) (look ! 5 refl)) (no_more !)) (λ v.
          returned ! tt (value_ended P R) (value_clauses P R φ 𝓤) to_g v (λ r ws. φ h r) (λ r ws. id⊢ 𝓤 _) (λ r ws is e.
          -- [the result; what is said of the copy; true; the token; what the `&` holds; true; true; _2; …; _1; …; room for _0; …]
          land ! (from ! (stop !)) (init ! 11 refl (T.typed 𝓛 r v is)) $
          returns ! (look ! 11 refl) $ forget ! 7 refl $ forget ! 9 refl $ forget ! 11 refl $ move ! (11 ∷ 12 ∷ []) $ free1 ! $ move ! (9 ∷ 10 ∷ []) $ free1 ! $ move ! (7 ∷ 8 ∷ []) $ free1 ! $ free0 ! $
          keep ! (3 ∷ 4 ∷ 0 ∷ []) $ by ! (exits r v e)))))))

  module _ {M : Type 1} {𝓤 : Ura M} (𝓛 : Logic 𝓤) (𝓜 : Model 𝓤 𝓛.H) (𝓡 : Running 𝓤 𝓛.H 𝓜) (η : Env) (k g : Callee) where
    open 𝓛 use {H}

    pub looked : Closed 𝓤 H (tables 𝓤 H 𝓜 𝓡 η).C (tables 𝓤 H 𝓜 𝓡 η).Λ k (body P R g) → Triple 𝓤 ((tables 𝓤 H 𝓜 𝓡 η).C g) (ByValue P R φ 𝓤 𝓛)
        → Meets 𝓛 (lent_ended P R).signature (𝓡.run (η k)) (closing 𝓛 (lent_ended P R) (lent_clauses P R φ 𝓤))
    looked closed known =
        proved 𝓛 𝓜 𝓡 (lent_ended P R) (stayed P R) (lent_clauses P R φ 𝓤) η k (body P R g) closed
        (Goes-none_ref 𝓛 1 (0 ∷ []) tt (plain (λ _. row_of P)) yes, tt) (λ fm.
        walked 𝓛 (lent_ended P R) (stayed P R) (lent_clauses P R φ 𝓤) (WpFn 𝓤 H (tables 𝓤 H 𝓜 𝓡 η).C (tables 𝓤 H 𝓜 𝓡 η).Λ (body P R g))
        (λ κs. (shr_vals, tt)) (λ κs. (shr_Tells (named 0) κs.0 (row_of P), tt))
        (λ κs qs bounds a _ _. via 𝓤 _ (fst∗ 𝓤 _ (emp 𝓤)) (walk 𝓛 κs.0 qs.0 a.0.ref_ptr.0 a.0.ref_ptr.1 a.0.now
        (tables 𝓤 H 𝓜 𝓡 η).C (tables 𝓤 H 𝓜 𝓡 η).Λ fm g known)))
