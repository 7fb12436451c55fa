-- No second outcome, of answer and output together, meets the contract of `encoder::encode` or of `encode_tcp`; that of `encode_string` is
-- an equation.
use mathlib.Core.Path.{◌≡◌, sym, ◌∙◌}
use mathlib.Core.List.{List}
use Prim.Native.Nat.{ℕ}
use Rattle.wire.proofs.Only.{one-outcome}
use Rattle.node.specs.Forest.{nil, node}
use Rattle.table.proofs.Spanned.{spans_unique}
use Rattle.table.proofs.Theorem.{tree_formed}
use Rattle.encoder.specs.Outcome.{Outcome, unframed, tree_outcome, Encodes, malformed, formed}

-- an encoder has one outcome, whatever its frame: a table has one tree, or none
pub encodes-only : (frame : ℕ → List ℕ → List ℕ) (t : List ℕ) (count : ℕ) (source out : List ℕ) (r s : Outcome)
    → Encodes frame t count source out r → Encodes frame t count source out s → r ≡ s
encodes-only frame t count source out r s (malformed n e) (malformed m f) = one-outcome e f
encodes-only frame t count source out r s (malformed n e) (formed item inside tree f) = absurd (n (tree_formed tree))
encodes-only frame t count source out r s (formed item inside tree e) (malformed n f) = absurd (n (tree_formed tree))
encodes-only frame t count source out r s (formed item inside tree e) (formed item' inside' tree' f) =
    let u : node item inside nil ≡ node item' inside' nil = spans_unique t 0 count _ _ tree.spans tree'.spans in
    let v : tree_outcome frame source out item inside ≡ tree_outcome frame source out item' inside' = cc in
    e ∙ v ∙ sym f

-- `encode` has one outcome
pub encode-only : (t : List ℕ) (count : ℕ) (source out : List ℕ) (r s : Outcome) → Encodes unframed t count source out r
    → Encodes unframed t count source out s → r ≡ s
encode-only = encodes-only unframed
