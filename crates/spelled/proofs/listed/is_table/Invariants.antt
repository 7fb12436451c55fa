-- `spelled::listed::is_table` meets its contract: it ends, since each record takes at least one byte.
use Rattle.std.proofs.Common.{◌+◌, ◌-◌, ◌≤◌, length}
use Rattle.spelled.proofs.listed.is_table.Given as goal

abbrev pub invariant-loop-at : goal.invariant-loop-at
invariant-loop-at l = l.at ≤ length l.list + 2

abbrev pub decreases-loop-at : goal.decreases-loop-at
decreases-loop-at l = length l.list + 2 - l.at
