use mathlib.Core.Path.{ap, ◌∙◌}
use Prim.Native.Nat.{ℕ, ◌%◌}
use native.Mathlib.Omega.{arith}
use borrow.Author.Rules.{rules}
use Rattle.node.proofs.Recorded.{zeros-read}
use Rattle.node.proofs.record.zeros_at.Goals as goal

pub returns : goal.returns
returns c =
    let a = c.args in
    ap (λ (x : ℕ). x % 0x100_0000) c.be_u32.ensures
    ∙ zeros-read a.table.now a.index (λ j. omega (arith, c.type_inv.table j)) (search rules)
