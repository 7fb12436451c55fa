-- A byte that stops ends the count where it stands, and any other is passed.
use native.Mathlib.Omega.{arith}
use denote.Param.{number}
use Rattle.text.specs.CodePlain.{stops_at}
use Rattle.text.specs.contracts.any_stop.{HIGH-type}
use Rattle.text.proofs.Passing.{one-met}
use Rattle.text.proofs.any_stop.Goals as goal

pub loop-byte-preserved : goal.loop-byte-preserved
loop-byte-preserved g c =
    one-met (stops_at (HIGH-type (number g.row.HIGH))) c.args.block.now c.loop-byte.byte-index (omega arith) c.loop-byte.invariant
    c.is_stop-any.ensures
