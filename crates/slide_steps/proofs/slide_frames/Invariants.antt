-- `slide_steps::slide_frames` meets its contract. The invariant: what is slid so far, and the fold of what is left, are the whole.
use Prim.Native.Nat.{◌-◌}
use lib.ListN.{length}
use Rattle.slide_steps.proofs.Frames.{Going}
use Rattle.slide_steps.proofs.slide_frames.Given as goal

abbrev pub invariant-loop-at : goal.invariant-loop-at
invariant-loop-at l = Going l.by l.initial.bytes l.at l.bytes l.table

abbrev pub decreases-loop-at : goal.decreases-loop-at
decreases-loop-at l = length l.initial.bytes - l.at
