-- No second answer meets the contract of `survey::survey`.
use mathlib.Core.Path.{◌≡◌, sym, ap, ◌∙◌}
use mathlib.Core.Logic.{⊎_elim}
use mathlib.Core.List.{List}
use Prim.Native.Nat.{ℕ, ◌+◌, ◌≤◌}
use native.Mathlib.Omega.{arith}
use lib.ListN.{length}
use Rattle.wire.proofs.Choices.{lt-or-le}
use Rattle.node.specs.Forest.{Forest}
use Rattle.node.specs.Records.{end_at}
use Rattle.table.specs.Tree.{Spans}
use Rattle.table.proofs.Spanned.{spans_unique}
use Rattle.writers.specs.CodeWriters.{packet_at}
use Rattle.writers.specs.Osc.{longest_element}
use Rattle.survey.specs.Surveys.{ShallowTree, Surveys}

-- a table has one tree, or none
tree-only : {t : List ℕ} {count : ℕ} {source : List ℕ} (F G : Forest) → ShallowTree t count source F → ShallowTree t count source G → F ≡ G
unfolding Spans
tree-only {t} F G v w = spans_unique t 1 (end_at t 0) F G v.tree.spans.1 w.tree.spans.1

-- where one answer is sure, so is the other
sure-both : {t : List ℕ} {count : ℕ} {source : List ℕ} {r s : ℕ} → Surveys t count source r → Surveys t count source s
    → r ≤ longest_element → s ≤ longest_element
sure-both v w h = let x = v.exact.sure h in w.exact.only x.forest x.right (omega (arith, x.sized))

-- two answers on the same table, count and source are equal
pub survey_only : (t : List ℕ) (count : ℕ) (source : List ℕ) (r s : ℕ) → Surveys t count source r → Surveys t count source s → r ≡ s
survey_only t count source r s v w =
    ⊎_elim
    (λ h. ⊎_elim (λ l. omega (arith, v.most, w.most)) (λ l. absurd (omega (arith, sure-both w v l))) (lt-or-le longest_element s))
    (λ h.
    let x = v.exact.sure h in
    let y = w.exact.sure (sure-both v w h) in
    let e = ap (λ (F : Forest). 4 + length (packet_at source t 0 F)) (tree-only x.forest y.forest x.right y.right) in
    sym x.sized ∙ e ∙ y.sized)
    (lt-or-le longest_element r)
