-- Two words that a test finds the same.
use mathlib.Core.Path.{◌≡◌, refl, sym}
use mathlib.Core.Bool.{Bool, true, false, cond, false≢true}
use mathlib.Core.List.{List, [], ◌∷◌}
use Prim.Native.Nat.{ℕ}
use lib.Dec.{eqb}
use borrow.Author.Tests.{eqb-true, eq-eqb}
use Rattle.wire.specs.Same.{same_bytes}

both : {A : Type 0} (x y : Bool) → (x ≡ true → y ≡ true → A) → cond x y false ≡ true → A
both true y f e = f refl e
both false y f e = absurd (false≢true e)

-- words that the test finds the same are one
pub same-one : (a b : List ℕ) → same_bytes a b ≡ true → a ≡ b
same-one [] [] e = refl
same-one [] (y ∷ b) e = absurd (false≢true e)
same-one (x ∷ a) [] e = absurd (false≢true e)
same-one (x ∷ a) (y ∷ b) e = both (eqb x y) (same_bytes a b) (λ h s. rw (eqb-true x y h, same-one a b s)) e

-- a word is the same as itself
same_refl : (a : List ℕ) → same_bytes a a ≡ true
same_refl [] = refl
same_refl (x ∷ a) = rw (eq-eqb x x refl) (same_refl a)

-- a test that is true just where two words are one
pub is_same : (r : Bool) (a b : List ℕ) → (r ≡ true → a ≡ b) × (a ≡ b → r ≡ true) → r ≡ same_bytes a b
is_same true a b e = sym (rw (e.0 refl) (same_refl b))
is_same false a b e = go (same_bytes a b) refl
  where
    go : (t : Bool) → same_bytes a b ≡ t → false ≡ t
    go true h = e.1 (same-one a b h)
    go false h = refl
