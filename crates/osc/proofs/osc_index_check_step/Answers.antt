-- What the check answers has 64 bits, since what it is given is short.
use mathlib.Core.Path.{◌≡◌, refl, sym, subst}
use mathlib.Core.List.{List}
use Prim.Native.Nat.{ℕ, ◌<◌}
use native.Mathlib.Omega.{arith}
use lib.ListN.{length}
use Rattle.cues.specs.Checks.{compared, numbered_from}
use Rattle.results.specs.Results.{Checked}
use Rattle.std.specs.Prelude.{Ok, Err}
use Rattle.results.specs.Results as checked
use Rattle.told.specs.Answers.{checked_number}
use Rattle.apart.specs.Boundary.{most_checked}
use Rattle.apart.proofs.Bounds.{fits-checked, differs-checked}
use Rattle.osc.proofs.osc_index_check_step.Goals as goal

-- an answer whose number has 64 bits
abbrev Small : Checked → Type 0
Small a = checked_number a < 0x1_0000_0000_0000_0000

number-low : (f g : List ℕ) (n : ℕ) → n < most_checked → length f < most_checked → length g < most_checked
    → Small (numbered_from n (compared f g))
number-low f g n low short brief = by_answer (compared f g) refl
  where
    by_answer : (r : Checked) → compared f g ≡ r → Small (numbered_from n r)
    by_answer (Ok k) e = omega (arith, fits-checked f g e)
    by_answer (Err differs) e = omega (arith, differs-checked f g e)

pub checked-requires : goal.checked-requires
checked-requires c =
    let a = c.args in
    subst Small (sym c.compare_from.ensures)
    (number-low a.fresh.now a.given.now a.from c.if-from-ge36028797018963968.false c.if-fresh-ge36028797018963968.false
    c.if-given-ge36028797018963968.false)
