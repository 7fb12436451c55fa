use mathlib.Core.Path.{sym, subst}
use Rattle.told.specs.Told.{Bounded}
use Rattle.apart.proofs.Bounds.{fits}
use Rattle.osc.proofs.decode.Goals as goal

pub tell-requires : goal.tell-requires
tell-requires c =
    let a = c.args in
    subst Bounded (sym c.of_decoded.ensures)
    (fits _ _ a.framing a.msg.now c.decode-answer.ensures.answered)
