-- The records written are those of the frames read so far, and what is left completes them to those of all.
use Prim.Native.Nat.{◌+◌}
use lib.ListN.{length}
use Rattle.arguments.specs.Arguments.{read_args}
use Rattle.arguments.specs.CodeReadings.{kept_of}
use Rattle.arguments.proofs.Filling.{Filling}
use Rattle.arguments.proofs.records.fill_whole.Given as goal

abbrev pub invariant-loop-left : goal.invariant-loop-left
invariant-loop-left l =
    Filling l.base (kept_of (read_args l.base l.tags l.input l.pos)) l.index (l.pos + length l.input) l.initial.table l.table
    l.left l.rest l.at l.n l.top

abbrev pub decreases-loop-left : goal.decreases-loop-left
decreases-loop-left l = length l.left
