-- What holds of a choice by a test, and of two choices by one test; and two numbers compared.
use mathlib.Core.Path.{◌≡◌, refl}
use mathlib.Core.Bool.{Bool, true, false, cond}
use mathlib.Core.Logic.{◌⊎◌, inl, inr}
use Prim.Native.Nat.{ℕ, ◌<◌, ◌≤◌}
use borrow.Author.Tests.{eqb-true, eqb-false, leb-true, leb-false, ltb-true, ltb-false}
use lib.Dec.{eqb, leb, ltb}

-- what a test chooses between has a property if both have it, each where it is chosen
pub by-test : {A : Type 0} (P : A → Type 0) (t : Bool) {x y : A} → (t ≡ true → P x) → (t ≡ false → P y) → P (cond t x y)
by-test P true f g = f refl
by-test P false f g = g refl

-- the same of a choice by whether two numbers are one
pub by-eq : {A : Type 0} (P : A → Type 0) (a b : ℕ) {x y : A} → (a ≡ b → P x) → ((a ≡ b → ⊥) → P y) → P (cond (eqb a b) x y)
by-eq P a b f g = by-test P (eqb a b) (λ e. f (eqb-true a b e)) (λ e. g (eqb-false a b e))

-- the same of a choice by whether one number is at most another
pub by_le : {A : Type 0} (P : A → Type 0) (a b : ℕ) {x y : A} → (a ≤ b → P x) → (b < a → P y) → P (cond (leb a b) x y)
by_le P a b f g = by-test P (leb a b) (λ e. f (leb-true a b e)) (λ e. g (leb-false a b e))

-- a relation between the results of two choices by one test
pub by_both : {A B : Type 0} (R : A → B → Type 0) (t : Bool) {x y : A} {x' y' : B} → R x x' → R y y' → R (cond t x y) (cond t x' y')
by_both R true f g = f
by_both R false f g = g

-- the first of two numbers is less than the second, or not
pub lt-or-le : (a b : ℕ) → (a < b) ⊎ (b ≤ a)
lt-or-le a b = go (ltb a b) refl
  where
    go : (x : Bool) → ltb a b ≡ x → (a < b) ⊎ (b ≤ a)
    go true e = inl (ltb-true a b e)
    go false e = inr (ltb-false a b e)

-- where the second of two choices does not give r, the test chose the first
pub then-only : {A : Type 0} (x : Bool) (p : A) {q r : A} → cond x p q ≡ r → (q ≡ r → ⊥) → x ≡ true
then-only true p e n = refl
then-only false p e n = absurd (n e)

-- where the first of two choices does not give r, the second is what was chosen
pub else-only : {A : Type 0} (x : Bool) {p q r : A} → cond x p q ≡ r → (p ≡ r → ⊥) → q ≡ r
else-only true e n = absurd (n e)
else-only false e n = e

-- two numbers are the same, or not
pub is-or : (a b : ℕ) → (a ≡ b) ⊎ (a ≡ b → ⊥)
is-or a b = go (eqb a b) refl
  where
    go : (x : Bool) → eqb a b ≡ x → (a ≡ b) ⊎ (a ≡ b → ⊥)
    go true e = inl (eqb-true a b e)
    go false e = inr (eqb-false a b e)
