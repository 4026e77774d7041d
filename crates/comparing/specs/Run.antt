-- Any history of calls that compares two uploads.
-- Assumes nothing.
use Rattle.std.specs.Prelude.{ℕ, ◌≡◌, Bool, true, false, List, [], ◌++◌, take, drop}
use Rattle.comparing.specs.Call.{is_whole, compared_of}
use Rattle.comparing.specs.declared.Compared.{Compared}

-- one upload so far: all that was offered, what of it is still to be done with, and whether it has ended
pub record Upload : Type 0 where
  pub stream : List ℕ
  pub unread : List ℕ
  pub ends : Bool

abbrev pub fresh : Upload
fresh = record { stream = []; unread = []; ends = false }

abbrev pub offered : Upload → List ℕ → Upload
offered u piece = record { stream = u.stream ++ piece; unread = u.unread ++ piece; ends = u.ends }

abbrev pub over : Upload → Upload
over u = record { stream = u.stream; unread = u.unread; ends = true }

abbrev pub went : Upload → List ℕ → Upload
went u unread = record { stream = u.stream; unread = unread; ends = u.ends }

-- an input that a call is lent: what is unread of an upload, or the first part of it. That nothing comes behind it is said only of all that is unread,
-- and only where the upload has ended
pub record Lent (u : Upload) (input later : List ℕ) (ends : Bool) : Type 0 where
  pub is : u.unread ≡ input ++ later
  pub all : ends ≡ true → (u.ends ≡ true) × (later ≡ [])

-- `Run left right agree differ text`: these are the uploads so far and the counts, and this was written.
--   begin       nothing was offered
--   offer-..    one more piece of a side that has not ended
--   end-..      a side ends
--   call        a call of the code, over any buffer, that did not end the text: `whole` of proofs/Runs is about the one that does
pub data Run : Upload → Upload → ℕ → ℕ → List ℕ → Type 0 where
  begin : Run fresh fresh 0 0 []
  offer_left : {l r : Upload} {n d : ℕ} {text : List ℕ} (piece : List ℕ) → l.ends ≡ false → Run l r n d text → Run (offered l piece) r n d text
  offer_right : {l r : Upload} {n d : ℕ} {text : List ℕ} (piece : List ℕ) → r.ends ≡ false → Run l r n d text → Run l (offered r piece) n d text
  end_left : {l r : Upload} {n d : ℕ} {text : List ℕ} → Run l r n d text → Run (over l) r n d text
  end_right : {l r : Upload} {n d : ℕ} {text : List ℕ} → Run l r n d text → Run l (over r) n d text
  call : {l r : Upload} {n d : ℕ} {text : List ℕ} {left llater right rlater : List ℕ} (lends rends : Bool) (out : List ℕ) {outAfter : List ℕ} {c : Compared}
      → Run l r n d text → Lent l left llater lends → Lent r right rlater rends
      → (c, outAfter) ≡ compared_of left lends right rends n d out → is_whole c.wants ≡ false
      → Run (went l (drop c.left left ++ llater)) (went r (drop c.right right ++ rlater)) c.counts.agree c.counts.differ (text ++ take c.written outAfter)
