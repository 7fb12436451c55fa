-- `table::deeper_than` meets its contract. The loops' invariant: what is left is too deep exactly where the whole is. The measure of the
-- inner one: each level may be closed.
use Rattle.table.proofs.Depths.{Passed}
use Rattle.table.proofs.deeper_than.Given as goal

abbrev pub invariant-loop-at : goal.invariant-loop-at
invariant-loop-at l = Passed l.table l.count l.limit l.ends l.levels l.at

abbrev pub invariant-loop-levels : goal.invariant-loop-levels
invariant-loop-levels l = Passed l.table l.count l.limit l.ends l.levels l.at

abbrev pub decreases-loop-levels : goal.decreases-loop-levels
decreases-loop-levels l = l.levels
