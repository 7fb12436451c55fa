-- No second outcome meets the contract of `table::is_well_formed`, nor that of `table::deeper_than`.
use mathlib.Core.Path.{◌≡◌, sym, ◌∙◌}
use mathlib.Core.Bool.{Bool}
use mathlib.Core.List.{List}
use Prim.Native.Nat.{ℕ}
use lib.Dec.{ltb}
use Rattle.utf8.specs.Utf8.{Decides}
use Rattle.utf8.proofs.Grammar.{same_answer}
use Rattle.node.specs.Forest.{Forest, depth}
use Rattle.table.specs.Formed.{WellFormed}
use Rattle.table.specs.Tree.{Spans, Row}

-- two answers on the same table, count and source are equal
pub is-well-formed-only : (t : List ℕ) (count : ℕ) (source : List ℕ) (x y : Bool) → Decides x (WellFormed t count source)
    → Decides y (WellFormed t count source) → x ≡ y
is-well-formed-only t count source x y d e = same_answer d e

-- two answers on the same table, count and limit are equal, where the call is allowed
pub deeper-than-only : (t : List ℕ) (count limit : ℕ) (x y : Bool) → Row t 0 count
    → ((F : Forest) → Spans t 0 count F → x ≡ ltb limit (depth F)) → ((F : Forest) → Spans t 0 count F → y ≡ ltb limit (depth F)) → x ≡ y
deeper-than-only t count limit x y w d e = d w.forest w.spans ∙ sym (e w.forest w.spans)
