-- Examples: a contract that meets demand 1, and for each of its four parts one that does not.
use mathlib.Core.Path.{◌≡◌, refl, ap}
use mathlib.Core.Bool.{false≢true}
use mathlib.Core.List.{List, [], ◌∷◌}
use Prim.Native.Nat.{ℕ}
use native.Mathlib.Omega.{arith}
use lib.ListN.{get_or}
use Rattle.refusal.specs.declared.Refusal.TheVariants.{OutputShort}
use Rattle.results.specs.Results.{Encoded}
use Rattle.std.specs.Prelude.{Err, Ok}
use Rattle.contract.specs.Endings.{by_encoded}
use Rattle.contract.specs.Contract.{Contract, writes, Demand1}
use Rattle.contract.proofs.OneEnding.{WellEnded, one-ending}

-- a call that writes a 7 over the first byte of its output; 12 where there is none
abbrev seven_of : List ℕ → Encoded
seven_of [] = Err OutputShort
seven_of (x ∷ l) = Ok 1

abbrev seven_at : List ℕ → List ℕ
seven_at [] = []
seven_at (x ∷ l) = 7 ∷ l

abbrev seven : List ℕ → List ℕ → Contract
seven numbers out = writes Encoded out (λ r after. (r ≡ seven_of out) × (after ≡ seven_at out)) by_encoded numbers

seven-ends : (out : List ℕ) → WellEnded (seven (12 ∷ []) out) (seven_of out) (seven_at out)
seven-ends [] = (refl, λ _. refl)
seven-ends (x ∷ l) = (tt, λ n. absurd n)

-- with 12 as its number it meets demand 1
seven-demand : (out : List ℕ) → Demand1 (seven (12 ∷ []) out)
seven-demand out = one-ending (seven (12 ∷ []) out) (seven_of out) (seven_at out) (refl, refl) (λ r l m. m) (seven-ends out)

-- `listed`: with 11 alone it does not
unlisted : Demand1 (seven (11 ∷ []) []) → ⊥
unlisted d = false≢true (d.listed (Err OutputShort) [] (refl, refl))

-- the contract of an encoder that is lent a zero, by what it promises
abbrev zeroed : (Encoded → List ℕ → Type 0) → Contract
zeroed Meets = writes Encoded (0 ∷ []) Meets by_encoded (12 ∷ [])

-- a 7 is no zero
seven-not-zero : ◌≡◌ {A = List ℕ} (7 ∷ []) (0 ∷ []) → ⊥
seven-not-zero e = let z : ◌≡◌ {A = ℕ} 7 0 = ap (λ (l : List ℕ). get_or l 0 0) e in omega arith

-- `unchanged`: no refusal leaves another byte
spoiled : Demand1 (zeroed (λ r after. (r ≡ Err OutputShort) × (after ≡ 7 ∷ []))) → ⊥
spoiled d = seven-not-zero (d.unchanged (Err OutputShort) (7 ∷ []) (refl, refl) tt)

-- `settled`: no contract leaves bytes open
unsettled : Demand1 (zeroed (λ r after. r ≡ Ok 1)) → ⊥
unsettled d = seven-not-zero (d.settled (Ok 1) (Ok 1) (7 ∷ []) (0 ∷ []) refl refl).1

-- `met`: no contract asks for what cannot be
unmet : Demand1 (zeroed (λ r after. ⊥)) → ⊥
unmet d = d.met (λ r l m. m)
