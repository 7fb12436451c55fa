-- `tool_recordings::judge_open` meets its contract: where the walk ended is what the rest of the index is judged by.
use mathlib.Core.Path.{◌≡◌, refl, subst⁻¹}
use Prim.Native.Nat.{ℕ}
use Rattle.results.specs.Results as checked
use Rattle.results.specs.declared.End.TheVariants as end
use Rattle.tool_recordings.specs.Loops.{JudgedBy, judges}
use Rattle.tool_recordings.specs.declared.Came.{Came}
use Rattle.tool_recordings.specs.declared.Came.TheVariants.{Differs}
use Rattle.tool_recordings.specs.declared.Judged.TheVariants.{As}
use Rattle.tool_recordings.proofs.judge_open.Goals as goal

pub returns-in-Ended : goal.returns-in-Ended
returns-in-Ended c =
    let rest = c.judge_rest in (
      judges c.walk_over.ensures.0
          (subst⁻¹ (λ (came : Came). JudgedBy came rest.result) c.in-Ended.is rest.ensures.0),
      rest.ensures.1,
    )

-- a walk that a differing record ended
differs-judged : {came : Came} {k : ℕ} → came ≡ Differs k → JudgedBy came (As (checked.Differs k) 0 end.Whole)
differs-judged {k = k} e = subst⁻¹ (λ (c : Came). JudgedBy c (As (checked.Differs k) 0 end.Whole)) e refl

pub returns-in-Differs : goal.returns-in-Differs
returns-in-Differs c = (judges c.walk_over.ensures.0 (differs-judged c.in-Differs.is), tt)
