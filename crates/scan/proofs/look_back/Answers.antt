use mathlib.Core.Path.{sym, ◌∙◌}
use Rattle.scan.proofs.Flat.{flat}
use Rattle.scan.proofs.look_back.Goals as goal

pub returns : goal.returns
returns c = flat _ (sym c.any_bracket.ensures ∙ c.if-any_bracket.false)
