-- No more records than bytes are compared, so that the number of a record has its bits.
use mathlib.Core.Path.{◌≡◌, sym, ◌∙◌}
use mathlib.Core.List.{List}
use Prim.Native.Nat.{ℕ, ◌+◌, ◌<◌}
use native.Mathlib.Omega.{arith}
use borrow.Author.Rules.{rules}
use lib.ListN.{length}
use Rattle.cues.specs.Checks.{compared}
use Rattle.results.specs.Results.{Differs}
use Rattle.std.specs.Prelude.{Ok}
use Rattle.cues.proofs.Checks.{fits_exactly, differs-in}
use Rattle.cues.proofs.checked.compare_from.Goals as goal

module _ {n k : ℕ} (f g : List ℕ) (h : n < 0x8000_0000_0000_0000) (a : length f < 0x1_0000_0000_0000_0000)
    (b : length g < 0x1_0000_0000_0000_0000) where
  fits_low : compared f g ≡ Ok k → n + k < 0x1_0000_0000_0000_0000
  fits_low e = omega (arith, ((fits_exactly f g).counts k e).1)

  differs-low : compared f g ≡ Differs k → n + k < 0x1_0000_0000_0000_0000
  differs-low e = omega (arith, differs-in f g k e)

pub overflow_add-result : goal.overflow_add-result
overflow_add-result c =
    let a = c.args in
    omega (arith, fits_low a.fresh.now a.given.now c.requires (search rules) (search rules) (sym c.compare.ensures ∙ c.in-Ok.is))

pub overflow_add-result-in-Err : goal.overflow_add-result-in-Err
overflow_add-result-in-Err c =
    let a = c.args in
    omega (arith, differs-low a.fresh.now a.given.now c.requires (search rules) (search rules) (sym c.compare.ensures ∙ c.in-Err.is))
