-- The check of a part of an index.
use mathlib.Core.Path.{◌≡◌, sym, ap}
use mathlib.Core.List.{List}
use Prim.Native.Nat.{ℕ, ◌+◌}
use native.Mathlib.Omega.{arith}
use lib.ListN.{length}
use Rattle.cues.specs.Checks.{compared, numbered_from}
use Rattle.results.specs.Results.{Checked}
use Rattle.std.specs.Prelude.{Ok, Err}
use Rattle.cues.proofs.Checks.{fits_exactly}
use Rattle.outcomes.specs.Cued.{AtMost, ChecksPart}

module _ (before : ℕ) (fresh given : List ℕ) where
  -- its answer is that of the check, moved by the records before it, and tells no more records than there are bytes
  pub part-checks : (r : Checked) → r ≡ compared fresh given → ChecksPart before fresh given (numbered_from before r)
  part-checks r e = record { answers = ap (numbered_from before) e; few = by_answer r e }
    where
      by_answer : (r : Checked) → r ≡ compared fresh given → AtMost (before + length fresh) (numbered_from before r)
      by_answer (Ok n) e = omega (arith, ((fits_exactly fresh given).counts n (sym e)).1)
      by_answer (Err differs) e = tt
