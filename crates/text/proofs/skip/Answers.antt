use native.Mathlib.Omega.{arith}
use mathlib.Core.Path.{sym, ◌∙◌}
use lib.ListN.{length-drop}
use denote.Param.{number}
use Rattle.text.specs.CodePlain.{stops_at}
use Rattle.text.specs.contracts.skip.{HIGH-type}
use Rattle.text.proofs.Passing.{block}
use Rattle.text.proofs.skip.Goals as goal

pub loop-at-preserved : goal.loop-at-preserved
loop-at-preserved g c =
    let l = c.loop-at in
    let input = c.args.input.now in
    block (stops_at (HIGH-type (number g.row.HIGH))) input l.at 16 l.invariant (omega (arith, length-drop l.at input))
    (sym c.any_stop.ensures ∙ c.if-any_stop.false)
