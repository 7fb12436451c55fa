-- What is left of the walk is too deep exactly where the whole is: a closed level, an opened one, a record without a level, the end.
use mathlib.Core.Path.{refl, sym, ◌∙◌}
use Rattle.table.proofs.Depths.{passed_none, passed-all, passed-end, passed-into, found, passed-level}
use Rattle.table.proofs.deeper_than.Goals as goal
use Rattle.table.proofs.deeper_than.Goals.{then-is_level+else-levels-limit, else-is_level}

pub loop-at-init : goal.loop-at-init
loop-at-init c = passed_none _ c.requires.0 refl refl

pub loop-levels-preserved : goal.loop-levels-preserved
loop-levels-preserved c = passed-end c.loop-levels.invariant c.loop-levels-test.true c.loop-at-test.true

pub returns-then-levels-limit : goal.returns-then-levels-limit
returns-then-levels-limit c =
    found c.loop-levels.invariant c.kind_at.ensures c.loop-levels-test.false (sym c.is_level.ensures ∙ c.if-is_level.true)
    c.if-levels-limit.true

pub loop-at-preserved : goal.loop-at-preserved
loop-at-preserved c =
    let kind = c.kind_at.ensures in
    let is = c.is_level.ensures in
    elim c.if-is_level.branch [
      | then-is_level+else-levels-limit w ↦
          rw (w.ends-is, w.levels-is) (passed-level c.loop-levels.invariant kind c.loop-levels-test.false (sym is ∙ w.if-is_level.true)
          w.field_at.ensures w.if-levels-limit.false c.requires.1)
      | else-is_level w ↦
          rw (w.ends-is, w.levels-is) (passed-into c.loop-levels.invariant kind c.loop-levels-test.false (sym is ∙ w.if-is_level.false))
    ]

pub returns : goal.returns
returns c = passed-all c.loop-at.invariant c.loop-at-test.false
