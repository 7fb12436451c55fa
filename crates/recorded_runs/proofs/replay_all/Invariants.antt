-- `recorded_runs::replay_all` meets its contract. Each case takes a byte at least, and no more than are left.
use Rattle.std.proofs.Common.{◌-◌, ◌≤◌, length}
use Rattle.recorded_runs.proofs.replay_all.Given as goal

abbrev pub invariant-loop-at : goal.invariant-loop-at
invariant-loop-at l = l.at ≤ length l.file

abbrev pub decreases-loop-at : goal.decreases-loop-at
decreases-loop-at l = length l.file - l.at
