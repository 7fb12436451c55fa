-- An example: a walk over three frames checks its parts against an index whose third record is cut off. What is told is 25 and record 2.
use mathlib.Core.Path.{◌≡◌, refl, ap}
use mathlib.Core.List.{◌++◌}
use native.Mathlib.Omega.{arith}
use lib.ListN.{length}
use Rattle.folding.specs.Folding.{joined_bytes}
use Rattle.cues.specs.Cues.{Index, written_of}
use Rattle.cues.specs.Checks.{compared_at, checked_as}
use Rattle.told.specs.Answers.{differs_number, checked_number}
use Rattle.recordings.proofs.Examples.{entry, three-portions, three-parts, three-walk, three-walked}
use Rattle.check_walk.specs.Chain.{chained}
use Rattle.check_walk.proofs.Chain.{walk_tells}

three-told : chained 0 three-parts (entry 0 ++ entry 16) ≡ differs_number 2
unfolding chained compared_at
three-told = refl

three-tells : chained 0 three-parts (entry 0 ++ entry 16) ≡ checked_number (checked_as (joined_bytes three-portions) (entry 0 ++ entry 16))
three-tells =
    walk_tells three-portions three-parts _ (entry 0 ++ entry 16) three-walk
    (omega (arith, ap (λ (i : Index). length (written_of i)) three-walked)) (omega arith)
