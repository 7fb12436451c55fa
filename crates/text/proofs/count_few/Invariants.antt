-- `text::count_few` meets its contract. The invariant: none of the bytes that were looked at stops the scan.
use Prim.Native.Nat.{◌+◌}
use Rattle.text.specs.CodePlain.{stops_at, Passed}
use denote.Param.{number}
use Rattle.text.specs.contracts.count_few.{HIGH-type}
use Rattle.text.proofs.count_few.Given as goal

abbrev pub invariant-loop-i : goal.invariant-loop-i
invariant-loop-i g l = Passed (stops_at (HIGH-type (number g.row.HIGH))) (l.start + l.i) l.input
