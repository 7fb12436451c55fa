use mathlib.Core.Path.{sym, subst}
use Rattle.told.specs.Told.{Bounded}
use Rattle.apart.proofs.Bounds.{portion-fits}
use Rattle.osc.proofs.osc_read_portion.Goals as goal

pub tell-requires : goal.tell-requires
tell-requires c =
    let a = c.args in
    subst Bounded (sym c.of_portion.ensures)
    (portion-fits _ a.bytes.now a.table.now c.read_portion-portion.ensures.answers)
