use mathlib.Core.Path.{ap, sym, ◌∙◌}
use Prim.Native.Nat.{ℕ}
use Rattle.told.specs.Told.{answer_of}
use Rattle.told.specs.Answers.{told_answer}
use Rattle.told.proofs.Seen.{in_table, kind-told}
use Rattle.osc.proofs.osc_look.Goals as goal

pub kind_at-requires : goal.kind_at-requires
kind_at-requires c = in_table _ _ (sym c.in-Ok.is ∙ c.look.ensures)

pub returns-in-Ok : goal.returns-in-Ok
returns-in-Ok c =
    c.low.ensures ∙ ap (λ (k : ℕ). answer_of (told_answer 0 k 0)) c.kind_at.ensures
    ∙ ap answer_of (kind-told _ _ (sym c.in-Ok.is ∙ c.look.ensures))
