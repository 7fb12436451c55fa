use mathlib.Core.Path.{◌∙◌}
use native.Mathlib.Omega.{arith}
use Rattle.wire.proofs.Numbers.{turned-number}
use Rattle.wire.proofs.be_u32.Goals as goal

pub returns : goal.returns
returns c =
    let a = c.args in
    c.turned.ensures ∙ turned-number a.s.now a.at _ c.le_u32.ensures (omega arith)
