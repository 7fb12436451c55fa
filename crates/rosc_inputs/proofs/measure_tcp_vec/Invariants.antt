-- `rosc_inputs::measure_tcp_vec` meets its contract. The invariant: the whole total is what is counted so far, and the total
-- of what is left.
use Rattle.rosc_inputs.proofs.ListTotals.{FramesCounted}
use lib.ListN.{length}
use Prim.Native.Nat.{◌-◌}
use Rattle.rosc_inputs.proofs.measure_tcp_vec.Given as goal

abbrev pub invariant-loop-at : goal.invariant-loop-at
invariant-loop-at l = FramesCounted l.depth l.msg l.at l.count l.dirt l.deep

abbrev pub decreases-loop-at : goal.decreases-loop-at
decreases-loop-at l = length l.msg - l.at
