-- `cues::index::measure_cues` meets its contract. The invariant: the whole stretch is what is counted so far, and the stretch of what is
-- left.
use Rattle.cues.proofs.Passes.{Counting}
use lib.ListN.{length}
use Prim.Native.Nat.{◌-◌}
use Rattle.cues.proofs.index.measure_cues.Given as goal

abbrev pub invariant-loop-at : goal.invariant-loop-at
invariant-loop-at l = Counting l.bytes l.at l.records

abbrev pub decreases-loop-at : goal.decreases-loop-at
decreases-loop-at l = length l.bytes - l.at
