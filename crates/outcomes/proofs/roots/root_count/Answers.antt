-- `outcomes::roots::root_count` meets its contract.
use native.Mathlib.Omega.{arith}
use borrow.Author.Rules.{rules}
use Rattle.outcomes.proofs.Counted.{root-on, root-passed, all-passed}
use Rattle.outcomes.proofs.roots.root_count.Goals as goal

pub returns-then-end-i : goal.returns-then-end-i
returns-then-end-i c f s =
    absurd (omega (arith, root-on (c.loop-i.invariant.1 f s) (search rules) c.field_at-end.ensures))

pub loop-i-preserved : goal.loop-i-preserved
loop-i-preserved c =
    (omega arith, λ f s. root-passed (c.loop-i.invariant.1 f s) (search rules) c.field_at-end.ensures)

pub returns : goal.returns
returns c f s = all-passed (c.loop-i.invariant.1 f s) (search rules)
