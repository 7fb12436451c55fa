use mathlib.Core.Path.{◌∙◌, sym, ap}
use Rattle.std.specs.Prelude.{Ok}
use Rattle.values.proofs.Looks.{no_record, not-zero, breaks-rules, is-value}
use Rattle.values.proofs.look.look.Goals as goal

pub returns-then-capacity_of-index : goal.returns-then-capacity_of-index
returns-then-capacity_of-index c = no_record _ _ (rw c.capacity_of.ensures at c.if-capacity_of-index.true)

pub returns-then-zeros_at-ne0 : goal.returns-then-zeros_at-ne0
returns-then-zeros_at-ne0 c =
    not-zero _ _ c.zeros_at.ensures (rw c.capacity_of.ensures at c.if-capacity_of-index.false) c.if-zeros_at-ne0.true

pub returns-then-own_rules : goal.returns-then-own_rules
returns-then-own_rules c =
    ap Ok c.value_of.ensures
    ∙ is-value _ _ c.zeros_at.ensures (rw c.capacity_of.ensures at c.if-capacity_of-index.false) c.if-zeros_at-ne0.false
    c.item_at-item.ensures (sym c.own_rules.ensures ∙ c.if-own_rules.true)

pub returns : goal.returns
returns c =
    breaks-rules _ _ c.zeros_at.ensures (rw c.capacity_of.ensures at c.if-capacity_of-index.false) c.if-zeros_at-ne0.false
    c.item_at-item.ensures (sym c.own_rules.ensures ∙ c.if-own_rules.false)
