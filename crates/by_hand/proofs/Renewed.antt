-- One walk for every function of the form
--     fn f(p: &mut P) { *p = g(*p); }
-- where g takes a struct of plain data by value and returns one: φ is what g promises of the struct passed and its result, and f the same of the
-- struct at entry and at exit.
--     body         f's MIR.        ByValue     the contract of g that f cites
--     renewed      f meets its contract, if g meets its own
-- The borrow is opened, the struct is copied out of its cell whole, g is called on the copy, its result is stored over the one that stands there,
-- and the borrow is closed at it.
-- Assumes nothing.
use mathlib.Core.Path.{refl}
use Prim.Native.Nat.{ℕ}
use mathlib.Core.List.{[], ◌∷◌, List}
use seplogic.Ra.Ura.{Ura}
use mir.Syntax.{Callee, Fn, named, mut, ty_unit, ty_ref, local, value_local, place, deref, copy, opd_unit, rv_opd, assign, call, seq, return}
use mir.Val.{Val, vunit, vptr}
use base.Logic.{SProp, ent, emp, via, fst∗, id⊢}
use base.Fml.{GName, Lft, Share, ftrue, flft, fobs, fbor}
use prog.Model.{Model}
use prog.Routine.{Env}
use prog.Wp.{Calls, Loops, WpFn, Closed}
use types.Logic.{Logic}
use contract.Monad.{fact}
use contract.Running.{Running, tables}
use types.Kit.{‵, raw, ◌⊛◌, ⋆, ◌$◌, ◌∵◌, !, qed, by, move, keep, drop, use0, split, join, fsplit, fsplit3, fjoin, fjoin3, feq_i, suffices, frame, done}
use types.Run.{look, look_raw, init, store_raw, forget, stop, hop, from, load, unit_lit, and_then, no_more, of_opd, assigns, land, returns, enter, alloc1, alloc0, params1, pass1, pass0, free1, free0}
use types.SemTy.{Body}
use sound.WpLaws.{FmC}
use denote.RattleType.{owns}
use denote.Memory.{mem, pointee}
use denote.Builtin as builtin
use denote.Builtin.{RefMutOf}
use denote.Ref.{MutBor, MutRef, mut_vals, mut_Tells}
use denote.Signature.{plain}
use denote.Steps.{nothing}
use denote.Triple.Clauses.{Ended, Clauses, closing}
use denote.Triple.Statement.{Contract, Triple}
use denote.Triple.Call.{calls_at}
use denote.Triple.Entry.{on_entry}
use denote.Triple.Spec.{Meets, triple_of}
use denote.Triple.Walked.{says, Stays, stay_ref, walk_of, Goes-ref, ends_at, walked}
use denote.Exit.{yes}
use Rattle.by_hand.proofs.Structs.{PlainStruct, row_of, mir_of, val_of, Stands, typed, owns_plain}
use Rattle.by_hand.proofs.Borrows.{opens_plain, closes_plain}
use Rattle.by_hand.proofs.Calls.{returned, proved}

module _ (P : PlainStruct) where
  abbrev pub body : Callee → Fn
  body g = record {
    lifetimes = 1;
    outlives = [];
    ty_params = [];
    givens = 0;
    params = 1;
    locals = local ty_unit value_local ∷ local (ty_ref (named 0) mut (pointee (row_of P).written)) value_local
        ∷ local (mir_of P) value_local ∷ local (mir_of P) value_local ∷ [];
    body = seq (assign (place 3 []) (rv_opd (copy (place 1 (deref (mir_of P) ∷ [])))))
        (seq (call g (copy (place 3 []) ∷ []) (place 2 []))
        (seq (assign (place 1 (deref (mir_of P) ∷ [])) (rv_opd (copy (place 2 []))))
        (seq (assign (place 0 []) (rv_opd opd_unit)) return)));
  }

  abbrev lent_ended : Ended
  lent_ended = record {
    signature = record { lifetimes = 1; outlives = []; params = RefMutOf (0 ∷ []) tt (plain (λ _. row_of P)) (λ _. tt) ∷ []; result = plain (λ _. builtin.unit) };
    kept = (yes, tt);
  }

  abbrev value_ended : Ended
  value_ended = record {
    signature = record { lifetimes = 0; outlives = []; params = plain (λ _. row_of P) ∷ []; result = plain (λ _. row_of P) };
    kept = (yes, tt);
  }

  abbrev stayed : Stays lent_ended.signature.params lent_ended.kept
  stayed = (stay_ref (0 ∷ []) tt (plain (λ _. row_of P)), tt)

  module _ (φ : P.type.D → P.type.D → Type 0) {M : Type 1} (𝓤 : Ura M) where
    abbrev lent_clauses : Clauses 𝓤 lent_ended
    lent_clauses κs a = record { ghost = Unit {0}; requires = λ _. emp 𝓤; ensures = λ _ r e. fact 𝓤 (φ a.0.now e.0.now) }

    abbrev value_clauses : Clauses 𝓤 value_ended
    value_clauses κs a = record { ghost = Unit {0}; requires = λ _. emp 𝓤; ensures = λ _ r e. fact 𝓤 (φ a.0 r) }

    abbrev pub ByValue : (𝓛 : Logic 𝓤) → Contract 𝓤
    ByValue 𝓛 = triple_of 𝓛 value_ended.signature (closing 𝓛 value_ended value_clauses)

module _ (P : PlainStruct) (φ : P.type.D → P.type.D → Type 0) where
  module _ {M : Type 1} {𝓤 : Ura M} (𝓛 : Logic 𝓤) (κ : Lft) (q : Share) (b o : ℕ) (γ : GName) (h : P.type.D) where
    open 𝓛 use {H}

    abbrev x : MutBor P.type.D × Unit {0}
    x = (record { ref_ptr = (b, o); ghost_name = γ; now = h }, tt)

    abbrev at : List Val × Unit {0}
    at = (vptr b o ∷ [], tt)

    abbrev Post : Val → SProp 𝓤
    Post = (walk_of 𝓛 (lent_ended P) (stayed P) (lent_clauses P φ 𝓤)).post (((κ, tt), (q, tt), tt, x, at), tt)

    exits : (r : P.type.D) → φ h r → ent 𝓤 (⋆ 𝓛 (‵ (fobs γ ((row_of P).coded.code r)) ∷ ‵ (fbor κ (Body (mem (row_of P)) b o γ)) ∷ ‵ (flft κ q) ∷ [])) (Post vunit)
    exits r e =
        qed 𝓛 (‵ (fobs γ ((row_of P).coded.code r)) ∷ ‵ (fbor κ (Body (mem (row_of P)) b o γ)) ∷ ‵ (flft κ q) ∷ []) ∵
        suffices ! _ (ends_at 𝓛 (lent_ended P) (stayed P) (lent_clauses P φ 𝓤) (((κ, tt), (q, tt), tt, x, at), tt) vunit tt (r, tt) (tt, tt)) $ says ! e $
        nothing ! $ move ! (3 ∷ 0 ∷ []) $ join ! $ frame ! $ feq_i ! (List Val) (vptr b o ∷ []) (vptr b o ∷ []) refl $ fjoin3 ! $
        nothing ! $ move ! (1 ∷ 0 ∷ []) $ fjoin ! $ feq_i ! (List Val) (vunit ∷ []) (vunit ∷ []) refl $ move ! (1 ∷ 0 ∷ []) $ done !

    -- what g's triple binds outside, and that the caller has what it asks
    abbrev to_g : (ByValue P φ 𝓤 𝓛).Ghost
    to_g = ((tt, tt, tt, (h, tt), (val_of P h ∷ [], tt)), tt)

    asked : Stands P h → ent 𝓤 (emp 𝓤) ((ByValue P φ 𝓤 𝓛).pre to_g)
    asked g = qed 𝓛 [] ∵ nothing ! $ owns_plain ! P h _ g $ fjoin ! $ nothing ! $ join ! $ frame ! $ done !

    module _ (C : Calls 𝓤 H) (Λ : Loops 𝓤 H) (fm : FmC 𝓤 H 𝓛.laws C) (g : Callee) (known : Triple 𝓤 (C g) (ByValue P φ 𝓤 𝓛)) where
      walk : ent 𝓤 (on_entry 𝓛 (lent_ended P).signature (κ, tt) (q, tt) x at) (WpFn 𝓤 H C Λ (body P g) (vptr b o ∷ []) Post)
      walk =
          qed 𝓛 ((‵ (flft κ q) ⊛ ‵ ftrue) ∷ ‵ (owns (MutRef (named 0) κ (row_of P) ∷ []) x at) ∷ []) ∵ enter ! C Λ (body P g) (vptr b o ∷ []) _ $
          alloc1 ! (λ l₀. alloc1 ! (λ l₁. alloc1 ! (λ l₂. alloc1 ! (λ l₃. alloc0 ! $ params1 ! $ pass1 ! (init ! 4 refl (tt, tt)) $ pass0 ! $
          -- [room for _3; …; room for _2; …; _1; …; room for _0; …; the token; what p owns]
          move ! (9 ∷ []) $ fsplit ! $ fsplit3 ! $ drop ! $ move ! (11 ∷ []) $ split ! $ move ! (2 ∷ 3 ∷ 0 ∷ []) $ opens_plain ! tt P h b o (λ st.
          -- [the struct's cell; the open borrow; obs; auth; true; true; room for _3; …; room for _2; …; _1; …; room for _0; …]
          assigns ! (of_opd ! (load ! (from ! (hop ! (look ! 10 refl) (stop !))) (look_raw ! 0 refl))) (from ! (stop !)) (init ! 6 refl (typed P 𝓛 h _ st)) $
          use0 𝓛 (raw ((ByValue P φ 𝓤 𝓛).pre to_g)) (asked st) $ calls_at ! fm (ByValue P φ 𝓤 𝓛) known to_g (and_then ! (load ! (from ! (stop !)) (look ! 7 refl)) (no_more !)) (λ v.
          returned ! tt (value_ended P) (value_clauses P φ 𝓤) to_g v (λ r ws. φ h r) (λ r ws. id⊢ 𝓤 _) (λ r ws is e. drop ! $ drop ! $ drop ! $
          -- the new struct is stored over the old one, and the borrow is closed at it
          land ! (from ! (stop !)) (init ! 8 refl (typed P 𝓛 r v is)) $
          assigns ! (of_opd ! (load ! (from ! (stop !)) (look ! 8 refl))) (from ! (hop ! (look ! 10 refl) (stop !))) (store_raw ! 0 refl (typed P 𝓛 r v is)) $
          assigns ! (of_opd ! (unit_lit !)) (from ! (stop !)) (init ! 12 refl (tt, tt)) $
          closes_plain ! tt P r v b o is $
          -- [obs; the borrow; the token; true; true; _3; …; _2; …; _1; …; _0; …]
          returns ! (look ! 11 refl) $ forget ! 5 refl $ forget ! 7 refl $ forget ! 9 refl $ forget ! 11 refl $
          move ! (11 ∷ 12 ∷ []) $ free1 ! $ move ! (9 ∷ 10 ∷ []) $ free1 ! $ move ! (7 ∷ 8 ∷ []) $ free1 ! $ move ! (5 ∷ 6 ∷ []) $ free1 ! $ free0 ! $
          keep ! (0 ∷ 1 ∷ 2 ∷ []) $ by ! (exits r e))))))))

  module _ {M : Type 1} {𝓤 : Ura M} (𝓛 : Logic 𝓤) (𝓜 : Model 𝓤 𝓛.H) (𝓡 : Running 𝓤 𝓛.H 𝓜) (η : Env) (k g : Callee) where
    open 𝓛 use {H}

    pub renewed : Closed 𝓤 H (tables 𝓤 H 𝓜 𝓡 η).C (tables 𝓤 H 𝓜 𝓡 η).Λ k (body P g) → Triple 𝓤 ((tables 𝓤 H 𝓜 𝓡 η).C g) (ByValue P φ 𝓤 𝓛)
        → Meets 𝓛 (lent_ended P).signature (𝓡.run (η k)) (closing 𝓛 (lent_ended P) (lent_clauses P φ 𝓤))
    renewed closed known =
        proved 𝓛 𝓜 𝓡 (lent_ended P) (stayed P) (lent_clauses P φ 𝓤) η k (body P g) closed
        (Goes-ref 𝓛 1 0 tt (plain (λ _. row_of P)), tt) (λ fm.
        walked 𝓛 (lent_ended P) (stayed P) (lent_clauses P φ 𝓤) (WpFn 𝓤 H (tables 𝓤 H 𝓜 𝓡 η).C (tables 𝓤 H 𝓜 𝓡 η).Λ (body P g))
        (λ κs. (mut_vals, tt)) (λ κs. (mut_Tells (named 0) κs.0 (row_of P), tt))
        (λ κs qs bounds a _ _. via 𝓤 _ (fst∗ 𝓤 _ (emp 𝓤)) (walk 𝓛 κs.0 qs.0 a.0.ref_ptr.0 a.0.ref_ptr.1 a.0.ghost_name a.0.now
        (tables 𝓤 H 𝓜 𝓡 η).C (tables 𝓤 H 𝓜 𝓡 η).Λ fm g known)))
