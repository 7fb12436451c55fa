-- `fill::write_bundle` meets its contract. The table, completed by what is left, is the table at the end; the measure is what is left of
-- the input.
use lib.ListN.{length}
use Rattle.fill.proofs.Contents.{Filling}
use Rattle.fill.proofs.write_bundle.Given as goal

abbrev pub invariant-loop-written : goal.invariant-loop-written
invariant-loop-written l =
    Filling l.base l.start l.input l.pos l.index l.initial.table l.table l.rest l.at l.written

abbrev pub decreases-loop-written : goal.decreases-loop-written
decreases-loop-written l = length l.rest
