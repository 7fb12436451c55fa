-- A fold meets its rule: the number of frames that ties the knot does not matter.
use mathlib.Core.Path.{◌≡◌, refl, ap, ◌∙◌}
use mathlib.Core.List.{List, [], ◌∷◌}
use Prim.Native.Nat.{ℕ, zero, suc, ◌+◌, ◌<◌, ◌≤◌}
use native.Mathlib.Omega.{arith}
use lib.ListN.{length, drop, length-drop}
use Rattle.folding.specs.Folding.{Verdict, takes, waits, refuses, Fold, Folding}
use Rattle.folding.specs.Folding.{with_sum, by_verdict, by_front, fold_at, fold_of, Inside}

module _ {A : Type 0} (f : Folding A) (inside : (base : ℕ) (l : List ℕ) → Inside (length l) (f.judge base l)) where
  verdict-cong : (go go' : ℕ → List ℕ → Fold A) (base : ℕ) (l : List ℕ) (x : Verdict A) → Inside (length l) x
      → ((b : ℕ) (m : List ℕ) → length m < length l → go b m ≡ go' b m) → by_verdict f go base l x ≡ by_verdict f go' base l x
  verdict-cong go go' base l (takes size adds) w h =
      ap (with_sum f adds) (h (base + size) (drop size l) (omega (arith, length-drop size l)))
  verdict-cong go go' base l waits w h = refl
  verdict-cong go go' base l (refuses why) w h = refl

  front-cong : (go go' : ℕ → List ℕ → Fold A) (base : ℕ) (l : List ℕ)
      → ((b : ℕ) (m : List ℕ) → length m < length l → go b m ≡ go' b m) → by_front f go base l ≡ by_front f go' base l
  front-cong go go' base [] h = refl
  front-cong go go' base (x ∷ l) h =
      verdict-cong go go' base (x ∷ l) (f.judge base (x ∷ l)) (inside base (x ∷ l)) h

  frames-same : (n m base : ℕ) (l : List ℕ) → length l ≤ n → length l ≤ m → fold_at f n base l ≡ fold_at f m base l
  unfolding fold_at
  frames-same zero zero base l h g = refl
  frames-same zero (suc m) base [] h g = refl
  frames-same zero (suc m) base (x ∷ l) h g = absurd (omega arith)
  frames-same (suc n) zero base [] h g = refl
  frames-same (suc n) zero base (x ∷ l) h g = absurd (omega arith)
  frames-same (suc n) (suc m) base l h g = front-cong _ _ base l (λ b j r. frames-same n m b j (omega arith) (omega arith))

  -- a fold is that of a frame and the fold after it
  pub fold-eq : (base : ℕ) (l : List ℕ) → fold_of f base l ≡ by_front f (λ b m. fold_of f b m) base l
  unfolding fold_at
  fold-eq base [] = refl
  fold-eq base (x ∷ l) = front-cong _ _ base (x ∷ l) (λ b m r. frames-same (length l) (length m) b m (omega arith) (omega arith))

  -- where a byte is left, a fold goes by the verdict on the bytes there
  pub fold-by : {x : Verdict A} (base : ℕ) (l : List ℕ) → 0 < length l → f.judge base l ≡ x
      → fold_of f base l ≡ by_verdict f (λ b m. fold_of f b m) base l x
  fold-by base [] h e = absurd (omega arith)
  fold-by base (y ∷ l) h e = fold-eq base (y ∷ l) ∙ ap (by_verdict f (λ b m. fold_of f b m) base (y ∷ l)) e
