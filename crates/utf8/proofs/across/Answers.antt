use Rattle.utf8.proofs.Steps.{passed_over}
use Rattle.utf8.proofs.across.Goals as goal

pub returns-then-highest-lt128 : goal.returns-then-highest-lt128
returns-then-highest-lt128 c =
    passed_over _ c.args.s.now c.if-from-eq0.true (rw c.highest.ensures at c.if-highest-lt128.true)
