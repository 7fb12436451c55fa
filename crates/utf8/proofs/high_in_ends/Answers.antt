use mathlib.Core.Path.{ap, ◌∙◌}
use Prim.Native.Nat.{ℕ}
use lib.Dec.{ltb}
use Rattle.utf8.proofs.Plain.{part-high, by-ends}
use Rattle.utf8.proofs.high_in_ends.Goals as goal

pub returns-then-highest-gt127 : goal.returns-then-highest-gt127
returns-then-highest-gt127 c =
    part-high c.args.s.now c.args.n (rw c.highest.ensures at c.if-highest-gt127.true)

pub returns : goal.returns
returns c =
    ap (λ (top : ℕ). ltb 0x7F top) c.highest-2.ensures
    ∙ by-ends c.args.s.now c.args.n c.requires.0 c.requires.1 (rw c.highest.ensures at c.if-highest-gt127.false)
