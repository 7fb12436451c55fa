-- `table::tiles` meets its contract. The loop's invariant: what is left of the children decides about all of them.
-- The measure is how many records are left.
use Prim.Native.Nat.{◌-◌}
use Rattle.table.proofs.Walks.{Walked}
use Rattle.table.proofs.tiles.Given as goal

abbrev pub invariant-loop-at : goal.invariant-loop-at
invariant-loop-at l = Walked l.table l.container l.lo l.hi l.at

abbrev pub decreases-loop-at : goal.decreases-loop-at
decreases-loop-at l = l.hi - l.at
