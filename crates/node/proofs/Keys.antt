-- What the arms of a `match` say of a tag.
use mathlib.Core.Path.{◌≡◌, refl, ap, sym, ◌∙◌}
use mathlib.Core.Bool.{false}
use mathlib.Core.List.{List, [], ◌∷◌}
use mathlib.Core.Logic.{inl, inr}
use Prim.Native.Nat.{ℕ}
use borrow.Author.Tests.{ne_eqb}
use types.Run.{OneOf}
use Rattle.node.specs.Tags.{among}

-- f is x at each key
abbrev pub Each : {A : Type 0} → (ℕ → A) → A → List ℕ → Type 0
Each f x [] = Unit {0}
Each f x (k ∷ ks) = (x ≡ f k) × Each f x ks

-- an arm was taken: what f is at each of its keys, it is at the tag
pub by-keys : {A : Type 0} (f : ℕ → A) (x : A) (ks : List ℕ) → Each f x ks → (t : ℕ) → OneOf ks t → x ≡ f t
by-keys f x [] e t h = absurd h
by-keys f x (k ∷ []) e t h = e.0 ∙ ap f (sym h)
by-keys f x (k ∷ k' ∷ ks) e t (inl h) = e.0 ∙ ap f (sym h)
by-keys f x (k ∷ k' ∷ ks) e t (inr h) = by-keys f x (k' ∷ ks) e.1 t h

-- an arm was passed by: the test of its keys fails
pub not-among : (ks : List ℕ) (t : ℕ) → (OneOf ks t → ⊥) → among t ks ≡ false
not-among [] t h = refl
not-among (k ∷ []) t h = rw (ne_eqb t k h)
not-among (k ∷ k' ∷ ks) t h = rw (ne_eqb t k (λ e. h (inl e))) (not-among (k' ∷ ks) t (λ e. h (inr e)))
