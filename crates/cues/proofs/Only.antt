-- No second outcome, answer and output, meets the contract of `index_step`, and one does; those of `compare` and `cue_at` are equations.
use mathlib.Core.Path.{◌≡◌, refl, ap, sym, ◌∙◌}
use mathlib.Core.List.{List}
use Prim.Native.Nat.{ℕ}
use lib.ListN.{length}
use Rattle.cues.specs.Cues.{index_of, written_of, index_answer, index_leaves, Indexes}
use Rattle.results.specs.Results.{IndexAnswer}

module _ {l : List ℕ} {base : ℕ} {out : List ℕ} where
  -- two outcomes are one
  pub indexes-only : {r s : IndexAnswer} {after after' : List ℕ} → Indexes l base out r after → Indexes l base out s after'
      → (r ≡ s) × (after ≡ after')
  indexes-only v w =
      let e = v.answers ∙ sym w.answers in
      (e, v.leaves ∙ ap (λ (x : IndexAnswer). index_leaves x (written_of (index_of base l)) out) e ∙ sym w.leaves)

  -- what the definitions give meets the contract
  pub indexes-met : Indexes l base out (index_answer base l (length out))
      (index_leaves (index_answer base l (length out)) (written_of (index_of base l)) out)
  indexes-met = record { answers = refl; leaves = refl }
