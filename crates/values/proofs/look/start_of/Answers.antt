use mathlib.Core.Path.{ap, ◌∙◌}
use Rattle.std.specs.Prelude.{Ok}
use Rattle.values.proofs.Looks.{starts, no_start}
use Rattle.values.proofs.look.start_of.Goals as goal

pub returns-then-index-capacity_of : goal.returns-then-index-capacity_of
returns-then-index-capacity_of c =
    ap Ok c.field_at.ensures ∙ starts _ _ (rw c.capacity_of.ensures at c.if-index-capacity_of.true)

pub returns : goal.returns
returns c = no_start _ _ (rw c.capacity_of.ensures at c.if-index-capacity_of.false)
