use Rattle.std.proofs.Common.{rules}
use mathlib.Core.Path.{sym, ◌∙◌}
use Rattle.node.specs.Rules.{own_rules}
use Rattle.node.proofs.rules.own_rules.Goals as goal

pub returns-then-is_packet : goal.returns-then-is_packet
unfolding own_rules
returns-then-is_packet c = rw (sym c.is_packet.ensures ∙ c.if-is_packet.true) c.if-is_packet.true

pub returns-else-is_packet : goal.returns-else-is_packet
unfolding own_rules
returns-else-is_packet c = rw (sym c.is_packet.ensures ∙ c.if-is_packet.false) (search rules)
