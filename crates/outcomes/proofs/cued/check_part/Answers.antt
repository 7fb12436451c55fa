-- `outcomes::cued::check_part` meets its contract: the answer of the check, numbered after the records before.
use mathlib.Core.Path.{refl, sym, subst}
use Rattle.outcomes.specs.Cued.{ChecksPart}
use Rattle.outcomes.proofs.Parts.{part-checks}
use Rattle.outcomes.proofs.cued.check_part.Goals as goal

pub returns : goal.returns
returns c =
    let a = c.args in
    subst (ChecksPart a.before a.fresh.now a.given.now) (sym c.compare_from.ensures)
    (part-checks a.before a.fresh.now a.given.now _ refl)
