use mathlib.Core.Path.{sym, subst}
use lib.ListN.{length}
use Rattle.told.specs.Told.{Bounded}
use Rattle.apart.proofs.Bounds.{indexed-fits}
use Rattle.osc.proofs.osc_index_step.Goals as goal

pub of_indexed-requires : goal.of_indexed-requires
of_indexed-requires c =
    let a = c.args in
    indexed-fits a.base a.bytes.now (length a.out.now) c.index_step-indexed.ensures.answers

pub tell-requires : goal.tell-requires
tell-requires c =
    let a = c.args in
    subst Bounded (sym c.of_indexed.ensures)
    (indexed-fits a.base a.bytes.now (length a.out.now) c.index_step-indexed.ensures.answers)
