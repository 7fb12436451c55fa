-- What is said in one line: a text that is put byte by byte, and one text after another.
use Rattle.std.proofs.Common.{◌≡◌, ℕ, zero, suc, List, [], ◌∷◌, ◌++◌, length, take, refl, ap, ◌∙◌, subst, append_assoc}
use Rattle.io.specs.Digits.{last_digits, IsDigitCount}
use Rattle.runs.specs.Said.{Adds, Decimal}

-- what was cut may be cut before more is put after it
cut-then : (n : ℕ) (x y : List ℕ) → take n (take n x ++ y) ≡ take n (x ++ y)
cut-then zero x y = refl
cut-then (suc n) [] y = refl
cut-then (suc n) (a ∷ x) y = ap (λ (l : List ℕ). a ∷ l) (cut-then n x y)

-- a text and then another are the two as one
pub then-adds : {a b o₀ o₁ o₂ : List ℕ} {at e₁ e₂ : ℕ} → Adds a at o₀ e₁ o₁ → Adds b e₁ o₁ e₂ o₂ → Adds (a ++ b) at o₀ e₂ o₂
then-adds {a} {b} {o₀} {o₁} {o₂} {at} {e₁} {e₂} one two = record {
  within = two.within;
  same = two.same ∙ one.same;
  said =
      two.said
      ∙ rw (one.same, one.said, cut-then (length o₀) (take at o₀ ++ a) b, append_assoc (take at o₀) a b);
}

-- the digits that `io::decimal` puts at the front of a slice
pub decimal-taken : (x n : ℕ) (l : List ℕ) → n ≡ length (take n l) → IsDigitCount 10 1 x n → take n l ≡ last_digits 10 n x → Decimal x (take n l)
decimal-taken x n l e few spelt = record {
  fewest = subst (λ (k : ℕ). IsDigitCount 10 1 x k) e few;
  spelled = spelt ∙ ap (λ (k : ℕ). last_digits 10 k x) e;
}
