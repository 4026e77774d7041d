-- One walk for every function of the form
--     fn f(p: &P, out: &mut [u8]) -> R { g(*p, out) }
-- where g takes a struct of plain data by value: φ is what g promises of the struct passed, the slice at entry, its result and the slice at exit,
-- and f the same of the struct that is lent.
--     body          f's MIR.        ByValue     the contract of g that f cites
--     passed_on     f meets its contract, if g meets its own
-- The borrow is looked into, the struct is copied out of its cell whole, the borrow is shut again, and g is called on the copy and the slice, which
-- is passed on for good, at its own lifetime, share and name.
-- Assumes nothing.
use mathlib.Core.Path.{◌≡◌, refl}
use Prim.Native.Nat.{ℕ}
use mathlib.Core.List.{[], ◌∷◌, List}
use lib.ListN.{length}
use seplogic.Ra.Ura.{Ura}
use mir.Syntax.{Callee, Fn, named, erased, mut, imm, w8, ty_int, ty_ref, local, value_local, place, deref, field, copy, rv_opd, addr_of, aggregate, assign, call, seq, return}
use mir.Val.{Val, vptr}
use base.Logic.{SProp, ent, sep, emp, via, fst∗, id⊢}
use base.Fml.{GName, Lft, Share, Fml, ftrue, flft, fbor}
use prog.Model.{Model}
use prog.Routine.{Env}
use prog.Wp.{Calls, Loops, WpFn, Closed}
use types.Logic.{Logic, sem}
use contract.Monad.{fact}
use contract.Running.{Running, tables}
use types.Kit.{‵, raw, ◌⊛◌, ⋆, ◌$◌, ◌∵◌, !, qed, by, move, keep, drop, use2, split, join, fsplit, fjoin, feq_l, feq_i, suffices, frame, done}
use types.Run.{look, look_raw, init, forget, stop, hop, fld, from, load, addr, and_then, no_more, of_opd, assigns, land, returns, enter, alloc1, alloc0, params1, pass1, pass0, free1, free0}
use types.Part.{agg, whole, sub, look_in}
use types.SemTy.{Arr, Body}
use types.Hole.{Holey}
use sound.WpLaws.{FmC}
use denote.RattleType.{RattleType, owns}
use denote.Memory.{lone, mem, pointee, hidden_shr}
use denote.Builtin.{u8, RefOf, SliceRefMutOf}
use denote.Ref.{Bor, MutBor, ShrRef, shr_vals, shr_Tells}
use denote.Slice.{slice_ty, slice_val, mut_slice_vals, MutSlice, Room, finally, mut_slice_Tells}
use denote.Signature.{plain}
use denote.Steps.{nothing}
use denote.Triple.Clauses.{Ended, Clauses, closing}
use denote.Triple.Statement.{Contract, Triple}
use denote.Triple.Call.{calls_at}
use denote.Triple.Entry.{alive, on_entry}
use denote.Triple.Spec.{Meets, triple_of}
use denote.Triple.Walked.{says, Stays, stay_none_ref, gave_slice, walk_of, Goes-none_ref, Goes-gave_slice, ends_at, walked}
use denote.Exit.{yes}
use Rattle.by_hand.proofs.Structs.{PlainStruct, row_of, mir_of, val_of, Stands, typed, owns_plain}
use Rattle.by_hand.proofs.Results.{Typed}
use Rattle.by_hand.proofs.Borrows.{looks_plain, shuts_plain}
use Rattle.by_hand.proofs.Calls.{returned, proved}

module _ (P : PlainStruct) (R : RattleType) where
  abbrev pub body : Callee → Fn
  body g = record {
    lifetimes = 2;
    outlives = [];
    ty_params = [];
    givens = 0;
    params = 2;
    locals = local (lone R.mir) value_local ∷ local (ty_ref (named 0) imm (pointee (row_of P).written)) value_local
        ∷ local (slice_ty (ty_ref (named 1) mut (ty_int w8))) value_local ∷ local (mir_of P) value_local
        ∷ local (ty_ref erased mut (ty_int w8)) value_local ∷ local (slice_ty (ty_ref erased mut (ty_int w8))) value_local ∷ [];
    body = seq (assign (place 3 []) (rv_opd (copy (place 1 (deref (mir_of P) ∷ [])))))
        (seq (assign (place 4 []) (addr_of (place 2 (field 0 ∷ deref (ty_int w8) ∷ []))))
        (seq (assign (place 5 []) (aggregate (copy (place 4 []) ∷ copy (place 2 (field 1 ∷ [])) ∷ [])))
        (seq (call g (copy (place 3 []) ∷ copy (place 5 []) ∷ []) (place 0 [])) return)));
  }

  abbrev lent_ended : Ended
  lent_ended = record {
    signature = record {
      lifetimes = 2;
      outlives = [];
      params = RefOf (0 ∷ []) tt (plain (λ _. row_of P)) (λ _. tt) ∷ SliceRefMutOf (1 ∷ []) tt (plain (λ _. u8)) (λ _. tt) ∷ [];
      result = plain (λ _. R);
    };
    kept = (yes, (yes, tt));
  }

  abbrev value_ended : Ended
  value_ended = record {
    signature = record { lifetimes = 1; outlives = []; params = plain (λ _. row_of P) ∷ SliceRefMutOf (0 ∷ []) tt (plain (λ _. u8)) (λ _. tt) ∷ []; result = plain (λ _. R) };
    kept = (yes, (yes, tt));
  }

  abbrev stayed : Stays lent_ended.signature.params lent_ended.kept
  stayed = (stay_none_ref (0 ∷ []) tt (plain (λ _. row_of P)) yes, (gave_slice (1 ∷ []) tt (plain (λ _. u8)), tt))

  module _ (φ : P.type.D → List ℕ → R.Denot → List ℕ → Type 0) {M : Type 1} (𝓤 : Ura M) where
    abbrev lent_clauses : Clauses 𝓤 lent_ended
    lent_clauses κs a = record { ghost = Unit {0}; requires = λ _. emp 𝓤; ensures = λ _ r e. fact 𝓤 (φ a.0.now a.1.0.now r e.1.0.now) }

    abbrev value_clauses : Clauses 𝓤 value_ended
    value_clauses κs a = record { ghost = Unit {0}; requires = λ _. emp 𝓤; ensures = λ _ r e. fact 𝓤 (φ a.0 a.1.0.now r e.1.0.now) }

    abbrev pub ByValue : (𝓛 : Logic 𝓤) → Contract 𝓤
    ByValue 𝓛 = triple_of 𝓛 value_ended.signature (closing 𝓛 value_ended value_clauses)

module _ (P : PlainStruct) (R : RattleType) (T : Typed R) (φ : P.type.D → List ℕ → R.Denot → List ℕ → Type 0) where
  module _ {M : Type 1} {𝓤 : Ura M} (𝓛 : Logic 𝓤) (κ κ' : Lft) (q q' : Share)
      (b o : ℕ) (h : P.type.D) (b' o' : ℕ) (γ' : GName) (ys : List ℕ) where
    -- the slice, and its machine value
    open 𝓛 use {H, A}

    abbrev out : MutBor (List ℕ)
    out = record { ref_ptr = (b', o'); ghost_name = γ'; now = ys }

    abbrev ov : Val
    ov = slice_val (b', o') (length ys)

    abbrev x : Bor P.type.D × (MutBor (List ℕ) × Unit {0})
    x = (record { ref_ptr = (b, o); now = h }, (out, tt))

    abbrev at : List Val × (List Val × Unit {0})
    at = (vptr b o ∷ [], (ov ∷ [], tt))

    abbrev Out : Fml
    Out = (MutSlice (named 1) κ' u8).own_val out (ov ∷ [])

    -- the borrow of the slice's elements
    abbrev Elements : Fml
    Elements = fbor κ' (Body (Arr (Holey (mem u8)) (length ys)) b' o' γ')

    abbrev Post : Val → SProp 𝓤
    Post = (walk_of 𝓛 (lent_ended P R) (stayed P R) (lent_clauses P R φ 𝓤)).post (((κ, (κ', tt)), (q, (q', tt)), tt, x, at), tt)

    exits : (r : R.Denot) (v : Val) (zs : List ℕ) → φ h ys r zs → length zs ≡ length ys
        → ent 𝓤 (⋆ 𝓛 (‵ (flft κ q) ∷ raw (alive 𝓛 (value_ended P R).signature (κ', tt) (q', tt))
        ∷ ‵ (hidden_shr (row_of P) κ h b o) ∷ ‵ (finally u8 γ' zs) ∷ ‵ Elements ∷ ‵ (R.own_val r (v ∷ [])) ∷ [])) (Post v)
    exits r v zs e l =
        qed 𝓛 (‵ (flft κ q) ∷ raw (alive 𝓛 (value_ended P R).signature (κ', tt) (q', tt)) ∷ ‵ (hidden_shr (row_of P) κ h b o) ∷ ‵ (finally u8 γ' zs) ∷ ‵ Elements ∷ ‵ (R.own_val r (v ∷ [])) ∷ []) ∵
        suffices ! _ (ends_at 𝓛 (lent_ended P R) (stayed P R) (lent_clauses P R φ 𝓤) (((κ, (κ', tt)), (q, (q', tt)), tt, x, at), tt) v r (tt, (zs, tt)) (tt, (l, tt))) $ says ! e $ join ! $ frame ! $
        feq_i ! (List Val) (vptr b o ∷ []) (vptr b o ∷ []) refl $ fjoin ! $ move ! (1 ∷ 2 ∷ []) $ fjoin ! $ nothing ! $ move ! (1 ∷ 0 ∷ []) $ fjoin ! $ move ! (1 ∷ 0 ∷ []) $ fjoin ! $ done !

    -- what g's triple binds outside, and that the caller has what it asks
    abbrev to_g : (ByValue P R φ 𝓤 𝓛).Ghost
    to_g = (((κ', tt), (q', tt), tt, (h, (out, tt)), (val_of P h ∷ [], (ov ∷ [], tt))), tt)

    asked : Stands P h → ent 𝓤 (sep 𝓤 (sep 𝓤 (A.lft κ' q') (sem 𝓛 ftrue)) (sem 𝓛 Out)) ((ByValue P R φ 𝓤 𝓛).pre to_g)
    asked g = qed 𝓛 ((‵ (flft κ' q') ⊛ ‵ ftrue) ∷ ‵ Out ∷ []) ∵ nothing ! $ move ! (2 ∷ 0 ∷ []) $ fjoin ! $ owns_plain ! P h _ g $ fjoin ! $ move ! (1 ∷ 0 ∷ []) $ join ! $ frame ! $ done !

    module _ (C : Calls 𝓤 H) (Λ : Loops 𝓤 H) (fm : FmC 𝓤 H 𝓛.laws C) (g : Callee) (known : Triple 𝓤 (C g) (ByValue P R φ 𝓤 𝓛)) where
      walk : Room u8 (length ys) → ent 𝓤 (on_entry 𝓛 (lent_ended P R).signature (κ, (κ', tt)) (q, (q', tt)) x at) (WpFn 𝓤 H C Λ (body P R g) (vptr b o ∷ ov ∷ []) Post)
      walk room =
          qed 𝓛 ((‵ (flft κ q) ⊛ ‵ (flft κ' q') ⊛ ‵ ftrue) ∷ ‵ (owns (ShrRef (named 0) κ (row_of P) ∷ MutSlice (named 1) κ' u8 ∷ []) x at) ∷ []) ∵ enter ! C Λ (body P R g) (vptr b o ∷ ov ∷ []) _ $
          alloc1 ! (λ l₀. alloc1 ! (λ l₁. alloc1 ! (λ l₂. alloc1 ! (λ l₃. alloc1 ! (λ l₄. alloc1 ! (λ l₅. alloc0 ! $ params1 ! $
          pass1 ! (init ! 8 refl (tt, tt)) $ pass1 ! (init ! 6 refl (tt, (tt, (record { fits = room.0 }, tt)))) $ pass0 ! $
          -- the struct is copied out
          move ! (13 ∷ []) $ fsplit ! $ fsplit ! $ drop ! $ move ! (14 ∷ []) $ split ! $ move ! (2 ∷ 0 ∷ []) $ looks_plain ! tt P h b o (λ q'' st.
          -- [a share of the struct's cell; what shuts it; what the `&` holds; the slice's token; what out owns; _5; …; _4; …; _3; …; _2; …; _1; …; room for _0; …]
          assigns ! (of_opd ! (load ! (from ! (hop ! (look ! 13 refl) (stop !))) (look_raw ! 0 refl))) (from ! (stop !)) (init ! 9 refl (typed P 𝓛 h _ st)) $ shuts_plain ! tt P q'' h b o st $
          -- [the struct's token; what the `&` holds; the slice's token; what out owns; _5; …; _4; …; _3; …; _2; …; _1; …; room for _0; …]
          assigns ! (addr ! (from ! (fld ! refl (hop ! (look_in ! 10 (sub ! 0 refl (whole !))) (stop !))))) (from ! (stop !)) (init ! 6 refl (tt, tt)) $
          assigns ! (agg ! (and_then ! (load ! (from ! (stop !)) (look ! 6 refl)) (and_then ! (load ! (from ! (fld ! refl (stop !))) (look_in ! 10 (sub ! 1 refl (whole !)))) (no_more !)))) (from ! (stop !))
          (init ! 4 refl (tt, (tt, (record { fits = room.0 }, tt)))) $
          -- the slice is passed on
          move ! (3 ∷ []) $ fsplit ! $ move ! (4 ∷ 0 ∷ []) $ use2 𝓛 (raw ((ByValue P R φ 𝓤 𝓛).pre to_g)) (asked st) $
          -- [what g asks; true; the struct's token; what the `&` holds; _5; …; _4; …; _3; …; _2; …; _1; …; room for _0; …]
          calls_at ! fm (ByValue P R φ 𝓤 𝓛) known to_g (and_then ! (load ! (from ! (stop !)) (look ! 8 refl)) (and_then ! (load ! (from ! (stop !)) (look ! 4 refl)) (no_more !))) (λ v.
          returned ! tt (value_ended P R) (value_clauses P R φ 𝓤) to_g v (λ r ws. φ h ys r ws.1.0) (λ r ws. id⊢ 𝓤 _) (λ r ws is e.
          -- [the result; the last values; the slice's token; true; the struct's token; what the `&` holds; _5; …; _4; …; _3; …; _2; …; _1; …; room for _0; …]
          land ! (from ! (stop !)) (init ! 16 refl (T.typed 𝓛 r v is)) $ move ! (1 ∷ []) $ fsplit ! $ move ! (1 ∷ []) $ fsplit ! $ fsplit ! $ fsplit ! $ move ! (1 ∷ []) $ feq_l ! (λ l.
          -- [the last list; the slice's borrow; true; what is said of the copy; the result; the slice's token; true; the struct's token; what the `&` holds; _5; …; _4; …; _3; …; _2; …; _1; …; _0; …]
          returns ! (look ! 19 refl) $ forget ! 9 refl $ forget ! 11 refl $ forget ! 13 refl $ forget ! 15 refl $ forget ! 17 refl $ forget ! 19 refl $
          move ! (19 ∷ 20 ∷ []) $ free1 ! $ move ! (17 ∷ 18 ∷ []) $ free1 ! $ move ! (15 ∷ 16 ∷ []) $ free1 ! $ move ! (13 ∷ 14 ∷ []) $ free1 ! $ move ! (11 ∷ 12 ∷ []) $ free1 ! $ move ! (9 ∷ 10 ∷ []) $ free1 ! $ free0 ! $
          keep ! (7 ∷ 5 ∷ 8 ∷ 0 ∷ 1 ∷ 4 ∷ []) $ by ! (exits r v ws.1.0 e l)))))))))))

  module _ {M : Type 1} {𝓤 : Ura M} (𝓛 : Logic 𝓤) (𝓜 : Model 𝓤 𝓛.H) (𝓡 : Running 𝓤 𝓛.H 𝓜) (η : Env) (k g : Callee) where
    open 𝓛 use {H}

    pub passed_on : Closed 𝓤 H (tables 𝓤 H 𝓜 𝓡 η).C (tables 𝓤 H 𝓜 𝓡 η).Λ k (body P R g) → Triple 𝓤 ((tables 𝓤 H 𝓜 𝓡 η).C g) (ByValue P R φ 𝓤 𝓛)
        → Meets 𝓛 (lent_ended P R).signature (𝓡.run (η k)) (closing 𝓛 (lent_ended P R) (lent_clauses P R φ 𝓤))
    passed_on closed known =
        proved 𝓛 𝓜 𝓡 (lent_ended P R) (stayed P R) (lent_clauses P R φ 𝓤) η k (body P R g) closed
        (Goes-none_ref 𝓛 2 (0 ∷ []) tt (plain (λ _. row_of P)) yes, (Goes-gave_slice 𝓛 2 1 tt (plain (λ _. u8)), tt)) (λ fm.
        walked 𝓛 (lent_ended P R) (stayed P R) (lent_clauses P R φ 𝓤) (WpFn 𝓤 H (tables 𝓤 H 𝓜 𝓡 η).C (tables 𝓤 H 𝓜 𝓡 η).Λ (body P R g))
        (λ κs. (shr_vals, (mut_slice_vals, tt))) (λ κs. (shr_Tells (named 0) κs.0 (row_of P), (mut_slice_Tells (named 1) κs.1.0 u8, tt)))
        (λ κs qs bounds a _ are. via 𝓤 _ (fst∗ 𝓤 _ (emp 𝓤)) (walk 𝓛 κs.0 κs.1.0 qs.0 qs.1.0 a.0.ref_ptr.0 a.0.ref_ptr.1 a.0.now
        a.1.0.ref_ptr.0 a.1.0.ref_ptr.1 a.1.0.ghost_name a.1.0.now (tables 𝓤 H 𝓜 𝓡 η).C (tables 𝓤 H 𝓜 𝓡 η).Λ fm g known are.1.0.0.1)))
