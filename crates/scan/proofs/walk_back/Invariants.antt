-- `scan::walk_back` meets its contract. The invariant: the tags from `at` on close every array that they open.
use Rattle.scan.proofs.Turns.{Looking}
use Rattle.scan.proofs.walk_back.Given as goal

abbrev pub invariant-loop-at : goal.invariant-loop-at
invariant-loop-at l = Looking l.tags l.at l.closed l.count l.depth
