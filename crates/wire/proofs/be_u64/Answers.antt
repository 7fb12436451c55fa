use Prim.Native.Nat.{◌+◌}
use native.Mathlib.Omega.{arith}
use Rattle.wire.proofs.Numbers.{number-parts, turned-number}
use Rattle.wire.proofs.be_u64.Goals as goal

pub returns : goal.returns
returns c =
    let a = c.args in
    omega (
      arith,
      c.turned-2.ensures,
      c.turned.ensures,
      turned-number a.s.now a.at _ c.le_u64-x.ensures.0 (omega arith),
      turned-number a.s.now (a.at + 4) _ c.le_u64-x.ensures.1 (omega arith),
      number-parts 4 4 a.s.now a.at (omega arith),
    )
