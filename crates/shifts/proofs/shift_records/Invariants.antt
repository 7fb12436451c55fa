-- `shifts::shift_records` meets its contract. The loop's invariant: the records before `index` are shifted, and shifting what is left gives
-- the whole.
use Rattle.shifts.proofs.Loop.{Shifting}
use Rattle.shifts.proofs.shift_records.Given as goal

abbrev pub invariant-loop-index : goal.invariant-loop-index
invariant-loop-index l = Shifting l.by l.count l.initial.table l.moved l.index l.table
