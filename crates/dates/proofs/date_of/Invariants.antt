-- `dates::date_of` meets its contract. The invariant: the month begins before the days that are left.
use Rattle.dates.proofs.Months.{Begun}
use Rattle.dates.proofs.date_of.Given as goal

abbrev pub invariant-loop-left : goal.invariant-loop-left
invariant-loop-left l = Begun l.day l.first l.left

abbrev pub decreases-loop-left : goal.decreases-loop-left
decreases-loop-left l = l.left
