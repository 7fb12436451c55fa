use mathlib.Core.Path.{sym, ◌∙◌}
use native.Mathlib.Omega.{arith}
use Rattle.utf8.proofs.Plain.{none-high, all-passed, judged}
use Rattle.utf8.proofs.is_utf8.Goals as goal

pub returns-then-n-le64 : goal.returns-then-n-le64
returns-then-n-le64 c = none-high _ (sym c.high_in_few.ensures ∙ c.if-high_in_few.false)

pub returns-then-highest-lt128 : goal.returns-then-highest-lt128
returns-then-highest-lt128 c =
    all-passed _ _ c.after_plain-rest.ensures (omega arith) c.if-rest-le64.true (rw c.highest.ensures at c.if-highest-lt128.true)

pub returns : goal.returns
returns c = judged _ c.after_plain-rest.result.now c.after_plain-rest.ensures c.walk-2.ensures
