-- `spelled::listed::put_table` meets its contract. The invariant: what was put so far fits; each record takes at least one byte.
use Rattle.std.proofs.Common.{◌+◌, ◌-◌, ◌≤◌, length}
use Rattle.spelled.specs.Put.{Put}
use Rattle.spelled.proofs.listed.put_table.Given as goal

abbrev pub invariant-loop-at : goal.invariant-loop-at
invariant-loop-at l = (l.at ≤ length l.list + 2) × Put l.done l.initial.out l.out

abbrev pub decreases-loop-at : goal.decreases-loop-at
decreases-loop-at l = length l.list + 2 - l.at
