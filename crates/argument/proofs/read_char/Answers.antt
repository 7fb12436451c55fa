use mathlib.Core.Path.{sym, ◌∙◌}
use Rattle.argument.proofs.There.{with-numbers}
use Rattle.argument.proofs.Argued.{scalar-short, scalar-given, not_scalar}
use Rattle.argument.proofs.read_char.Goals as goal

pub returns-then-input-lt4 : goal.returns-then-input-lt4
returns-then-input-lt4 c = scalar-short _ _ _ _ c.if-input-lt4.true

pub returns-then-is_scalar : goal.returns-then-is_scalar
returns-then-is_scalar c =
    let e = scalar-given _ _ _ _ c.if-input-lt4.false c.be_u32-scalar.ensures (sym c.is_scalar.ensures ∙ c.if-is_scalar.true) in
    sym (with-numbers e c.given.ensures)

pub returns : goal.returns
returns c =
    not_scalar _ _ _ _ c.if-input-lt4.false c.be_u32-scalar.ensures (sym c.is_scalar.ensures ∙ c.if-is_scalar.false)
