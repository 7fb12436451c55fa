-- `standard_inputs::measure_tcp_vec2` meets its contract. The invariant: the whole total is what is counted so far, and the total
-- of what is left.
use Rattle.standard_inputs.proofs.Cuts.{FramesCounted}
use lib.ListN.{length}
use Prim.Native.Nat.{◌-◌}
use mathlib.Core.Bool.{false}
use Rattle.standard_inputs.proofs.measure_tcp_vec2.Given as goal

abbrev pub invariant-loop-at : goal.invariant-loop-at
invariant-loop-at l = FramesCounted l.depth l.msg l.at l.count l.dirt false

abbrev pub decreases-loop-at : goal.decreases-loop-at
decreases-loop-at l = length l.msg - l.at
