-- `outcomes::roots::root_count` meets its contract. The invariant: the roots before `i` are counted, and the others stand from it on.
use Prim.Native.Nat.{◌≤◌, ◌-◌}
use Rattle.node.specs.Forest.{Forest}
use Rattle.outcomes.specs.CodeRoots.{StandAt}
use Rattle.outcomes.proofs.Counted.{Passed}
use Rattle.outcomes.proofs.roots.root_count.Given as goal

abbrev pub invariant-loop-i : goal.invariant-loop-i
invariant-loop-i l = (l.n ≤ l.i) × ((f : Forest) → StandAt l.table 0 l.count f → Passed l.table l.count f l.i l.n)

abbrev pub decreases-loop-i : goal.decreases-loop-i
decreases-loop-i l = l.count - l.i
