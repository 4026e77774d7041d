-- Writing after reading, over the layout.
-- Assumes nothing.
use Prim.Native.Nat.{ℕ, ◌≤◌}
use mathlib.Core.List.{List}
use mathlib.Core.Path.{◌≡◌, ap, ◌∙◌}
use native.Mathlib.Omega.{arith}
use borrow.Author.Tests.{le-leb}
use lib.IntN.{ℤ}
use lib.ListN.{length}
use Rattle.base.specs.Bytes.{Bytes}
use Rattle.layout.specs.Layout.{Field, size_of, read_from, record_bytes}
use Rattle.layout.proofs.Fields.{written_payload}
use Rattle.layout.specs.Decoded.{decoded, read_of}
use Rattle.layout.proofs.Known.{same_numbers}

-- the numbers of a payload of exactly the layout's length are written as that payload
pub written_back :
    (fs : List Field) (vs : List ℤ) (payload : List ℕ) → Bytes payload → length payload ≡ size_of fs → decoded vs ≡ read_of fs payload
    → record_bytes fs vs ≡ payload
written_back fs vs payload b e r =
    let enough : size_of fs ≤ length payload = omega arith in
    let same : decoded vs ≡ decoded (read_from fs 0 payload) = simp (le-leb _ _ enough) at r in
    ap (record_bytes fs) (same_numbers same) ∙ written_payload fs payload b e
