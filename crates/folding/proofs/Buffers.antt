-- Law (b): through any row of buffers a fold is that of the whole recording.
use mathlib.Core.Path.{◌≡◌, refl, ap, sym, ◌∙◌}
use mathlib.Core.List.{List, [], ◌∷◌, ◌++◌, append_assoc, append-nil}
use Prim.Native.Nat.{ℕ, ◌-◌}
use lib.ListN.{drop}
use Rattle.results.specs.declared.End.TheVariants as end
use Rattle.folding.specs.Folding.{Fold, folded, Folding, with_sum, fold_of, Sound}
use Rattle.folding.specs.Folding.{continued, joined_bytes, goes_on, through_buffers, AnyBuffers}
use Rattle.folding.proofs.Cut.{cut_anywhere}

module _ {A : Type 0} (f : Folding A) (s : Sound f) where
  go_on : (base : ℕ) (l more : List ℕ) (go : ℕ → Fold A) → ((at : ℕ) → go at ≡ fold_of f at (drop (at - base) l ++ more))
      → (i : Fold A) → goes_on f go i ≡ continued f base l more i
  go_on base l more go h (folded sum at end.Whole) = ap (with_sum f sum) (h at)
  go_on base l more go h (folded sum at end.Waiting) = ap (with_sum f sum) (h at)
  go_on base l more go h (folded sum at (end.Refused k)) = refl

  through : (portions : List (List ℕ)) (base : ℕ) (kept : List ℕ)
      → through_buffers f base kept portions ≡ fold_of f base (kept ++ joined_bytes portions)
  unfolding through_buffers joined_bytes
  through [] base kept = ap (fold_of f base) (sym (append-nil kept))
  through (portion ∷ later) base kept =
      go_on base (kept ++ portion) (joined_bytes later) _ (λ at. through later at (drop (at - base) (kept ++ portion)))
      (fold_of f base (kept ++ portion))
      ∙ sym (cut_anywhere f s base (kept ++ portion) (joined_bytes later))
      ∙ ap (fold_of f base) (append_assoc kept portion (joined_bytes later))

  -- law (b)
  pub any_buffers : AnyBuffers f
  any_buffers portions = through portions 0 []
