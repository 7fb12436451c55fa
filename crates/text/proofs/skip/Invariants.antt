-- `text::skip` meets its contract. The invariant is what it ensures, of the bytes before `at`.
use Prim.Native.Nat.{◌-◌}
use lib.ListN.{length}
use Rattle.text.specs.CodePlain.{stops_at, Passed}
use denote.Param.{number}
use Rattle.text.specs.contracts.skip.{HIGH-type}
use Rattle.text.proofs.skip.Given as goal

abbrev pub invariant-loop-at : goal.invariant-loop-at
invariant-loop-at g l = Passed (stops_at (HIGH-type (number g.row.HIGH))) l.at l.input

abbrev pub decreases-loop-at : goal.decreases-loop-at
decreases-loop-at g l = length l.input - l.at
