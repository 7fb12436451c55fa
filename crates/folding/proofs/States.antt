-- The state of a program that folds portion by portion: what a step does to it.
use mathlib.Core.Path.{◌≡◌, ap, sym, ◌∙◌}
use mathlib.Core.List.{List, [], ◌++◌, append_assoc, append-nil}
use Prim.Native.Nat.{ℕ, ◌+◌}
use lib.ListN.{drop}
use Rattle.refusal.specs.declared.Refusal.{Refusal}
use Rattle.results.specs.declared.End.{End}
use Rattle.results.specs.declared.End.TheVariants as end
use Rattle.folding.specs.Folding.{folded, Folding, with_sum, fold_of, Sound}
use Rattle.folding.specs.Walks.{MayContinue, Reached, BeginsReached, ReachedGoes}
use Rattle.folding.proofs.Cut.{sum-none, sum_twice}
use Rattle.folding.proofs.Walks.{goes_further, ends-here}

module _ {A : Type 0} (f : Folding A) (s : Sound f) where
  pub begins : BeginsReached f
  begins more = sym (sum-none f s (fold_of f 0 more))

  module _ (past : List ℕ) (base : ℕ) (kept : List ℕ) (sum : A) (r : Reached f past base kept sum) where
    -- one portion more, by what was reached
    one_more : (portion more : List ℕ) → fold_of f 0 ((past ++ portion) ++ more) ≡ with_sum f sum (fold_of f base ((kept ++ portion) ++ more))
    one_more portion more =
        ap (fold_of f 0) (append_assoc past portion more) ∙ r (portion ++ more)
        ∙ ap (λ (l : List ℕ). with_sum f sum (fold_of f base l)) (sym (append_assoc kept portion more))

    step-on : (portion : List ℕ) (a : A) (used : ℕ) (why : End) → fold_of f base (kept ++ portion) ≡ folded a (base + used) why
        → MayContinue why → Reached f (past ++ portion) (base + used) (drop used (kept ++ portion)) (f.add sum a)
    step-on portion a used why e g more =
        let l = kept ++ portion in
        one_more portion more ∙ ap (with_sum f sum) (goes_further f s base l a used why e more g)
        ∙ sum_twice f s sum a (fold_of f (base + used) (drop used l ++ more))

    step-stops : (portion : List ℕ) (a : A) (used : ℕ) (why : Refusal)
        → fold_of f base (kept ++ portion) ≡ folded a (base + used) (end.Refused why) → (more : List ℕ)
        → fold_of f 0 ((past ++ portion) ++ more) ≡ folded (f.add sum a) (base + used) (end.Refused why)
    step-stops portion a used why e more =
        one_more portion more ∙ ap (with_sum f sum) (ends-here f s base (kept ++ portion) a used (end.Refused why) e more (λ g. g))

    at-end : fold_of f 0 past ≡ with_sum f sum (fold_of f base kept)
    at-end =
        ap (fold_of f 0) (sym (append-nil past)) ∙ r [] ∙ ap (λ (l : List ℕ). with_sum f sum (fold_of f base l)) (append-nil kept)

  pub goes : ReachedGoes f
  goes past base kept sum r =
      record { on = step-on past base kept sum r; stop = step-stops past base kept sum r; end = at-end past base kept sum r }
