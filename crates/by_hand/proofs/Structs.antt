-- A declared struct that owns only facts, as the walks over a lent one take it.
--     PlainStruct             such a struct: what `rattle check` makes of it, in one record
--     row_of, mir_of, val_of     its type, its MIR type, and a record's machine value.        Stands     that the record stands at it
--     val_is, stands, typed   a machine value that a record stands at is the record's, and has the struct's MIR type
--     owns_plain              what a record owns is had for nothing.        bound, silent     and a contract binds and says nothing of one that was passed by value
-- Assumes `Logic`.
use mathlib.Core.Path.{◌≡◌, refl, ap, sym, subst}
use mathlib.Core.List.{List, [], ◌∷◌}
use seplogic.Ra.Ura.{Ura}
use lib.Dec.{T as Holds}
use mir.Syntax.{Ty}
use mir.Val.{Val, WT, has_ty}
use base.Fml.{ftrue}
use types.Logic.{Logic}
use types.Kit.{Item, Goal, Step, ‵}
use denote.RattleType.{RattleType}
use denote.Exit.{Kept, Exit, Last, left}
use denote.Laws.{Is}
use denote.Memory.{lone}
use denote.Steps.{only, owned}
use denote.Struct.Declared.{Declared, fields, row}
use denote.Struct.Struct.{Plains}
use denote.Struct.Laws as LL

pub record PlainStruct : Type 2 where
  pub type : Declared
  pub laws : LL.Laws type
  pub plain : Plains (fields type)
  pub copy : LL.Copyables type.parts

module _ (S : PlainStruct) where
  abbrev pub row_of : RattleType
  row_of = row S.type

  -- the MIR type of a local that holds one
  abbrev pub mir_of : Ty
  mir_of = lone row_of.mir

  abbrev pub val_of : S.type.D → Val
  val_of = LL.val S.type S.laws

  abbrev pub Stands : S.type.D → Type 0
  Stands h = Is row_of h (val_of h ∷ [])

  -- a machine value that a record stands at is the record's
  pub val_is : (h : S.type.D) (v : Val) → Is row_of h (v ∷ []) → v ≡ val_of h
  val_is h v is = ap only (LL.tells S.type S.laws h _ is)

  pub stands : (h : S.type.D) (v : Val) → Is row_of h (v ∷ []) → Stands h
  stands h v is = LL.owes S.type S.laws h (LL.owed S.type S.laws h _ is)

  pub typed : {M : Type 1} {𝓤 : Ura M} (𝓛 : Logic 𝓤) → (h : S.type.D) (v : Val) → Is row_of h (v ∷ []) → Holds (has_ty mir_of v) × WT v
  typed 𝓛 h v is = ((LL.lawful S.type S.laws 𝓛).typed h _ is).0

  -- of a record that was passed by value
  pub bound : (k : Kept) (h : S.type.D) → Last (row_of.exit k) h
  bound k h = subst (λ (e : Exit S.type.D). Last e h) (sym (LL.still S.type S.copy k)) tt

  pub silent : (k : Kept) (h : S.type.D) (w : Last (row_of.exit k) h) → left (row_of.exit k) h w ≡ ftrue
  silent k h = subst (λ (e : Exit S.type.D). (w : Last e h) → left e h w ≡ ftrue) (sym (LL.still S.type S.copy k)) (λ w. refl)

module _ {M : Type 1} {𝓤 : Ura M} {𝓛 : Logic 𝓤} {K : Type 0} {Γ : List (Item 𝓤)} {G : Goal 𝓤 𝓛.H} where
  pub owns_plain : K → (S : PlainStruct) (h : S.type.D) (v : Val) → Is (row_of S) h (v ∷ []) → Step K 𝓛 (‵ ((row_of S).own_val h (v ∷ [])) ∷ Γ) G Γ G
  owns_plain t S h v is = owned t (row_of S) (Is (row_of S)) (LL.makes S.type S.plain 𝓛) h (v ∷ []) is
