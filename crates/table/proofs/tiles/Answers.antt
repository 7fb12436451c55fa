-- A child that passed the tests leaves the decision to the children after it, and at the end nothing is left to decide.
use mathlib.Core.Path.{sym, ◌∙◌}
use native.Mathlib.Omega.{arith}
use Rattle.table.proofs.Walks.{walked_on, walked_end}
use Rattle.table.proofs.tiles.Goals as goal

pub loop-at-preserved : goal.loop-at-preserved
loop-at-preserved c =
    walked_on c.loop-at.invariant c.kind_at.ensures c.loop-at-test.true c.field_at-next.ensures
    (sym c.may_contain.ensures ∙ c.if-not-may_contain.false) (omega arith)

pub returns : goal.returns
returns c = walked_end c.loop-at.invariant c.loop-at-test.false
