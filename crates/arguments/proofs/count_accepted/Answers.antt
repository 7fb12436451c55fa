use mathlib.Core.Path.{sym, ◌∙◌}
use Rattle.arguments.proofs.Counts.{accepted-counted}
use Rattle.arguments.proofs.count_accepted.Goals as goal

pub returns-in-Uncut : goal.returns-in-Uncut
returns-in-Uncut c = λ base l p a.
    accepted-counted base c.args.tags.now l p (sym c.in-Uncut.is ∙ c.look_back.ensures) a

pub returns-in-Cut : goal.returns-in-Cut
returns-in-Cut c = λ base l p a.
    accepted-counted base c.args.tags.now l p (sym c.in-Cut.is ∙ c.look_back.ensures) a
