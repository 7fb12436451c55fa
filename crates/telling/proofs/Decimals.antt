-- The digits that the kit's functions write are those of the definitions.
use mathlib.Core.Path.{◌≡◌, refl, ap}
use mathlib.Core.Logic.{⊎_elim}
use mathlib.Core.List.{List, [], ◌∷◌, ◌++◌}
use Prim.Native.Nat.{ℕ, zero, suc, ◌+◌, ◌-◌, ◌*◌, ◌/◌, ◌%◌, ◌^◌, ◌≤◌, ◌<◌, min, max}
use native.Mathlib.Nat.{mod-eq_of_lt, mod-lt, le-div_iff_mul-le, div-lt_iff_lt-mul, pow-suc, pow-le-pow_right}
use native.Mathlib.Numerals.{unary_clauses}
use native.Mathlib.Omega.{arith}
use borrow.Author.Tests.{lt-ltb, le-ltb}
use Rattle.wire.proofs.Choices.{lt-or-le}
use Rattle.io.specs.Digits.{hex_digit_ascii, last_digits, IsDigitCount}
use Rattle.telling.specs.Decimal.{decimal_by, decimal_of, eight_of}

-- a decimal digit
glyph-ten : (d : ℕ) → d < 10 → hex_digit_ascii d ≡ 48 + d
glyph-ten d h = rw (lt-ltb d 10 h)

-- a number of one digit
one-digit : (m x : ℕ) → x < 10 → decimal_by m x ≡ (48 + x) ∷ []
unfolding decimal_by
one-digit zero x h = refl
one-digit (suc m) x h = rw (lt-ltb x 10 h)

-- the fewest digits that hold a number are its decimal digits
fewest-ten : (m k x : ℕ) → k ≤ m → IsDigitCount 10 1 x (suc k) → last_digits 10 (suc k) x ≡ decimal_by m x
unfolding decimal_by
fewest-ten m zero x h f =
    let l : x < 10 = f.1 in
    rw (mod-eq_of_lt l, glyph-ten x l, one-digit m x l)
fewest-ten zero (suc k) x h f = absurd (omega arith)
fewest-ten (suc m) (suc k) x h f =
    let q : 10 ^ (suc (suc k)) ≡ 10 ^ (suc k) * 10 = pow-suc 10 (suc k) in
    let most : x < 10 ^ (suc k) * 10 = rw q at f.1 in
    let least : 10 ^ k * 10 ≤ x = simp unary_clauses at (f.2 (omega arith)) in
    let one : 1 ≤ 10 ^ k = pow-le-pow_right {n = 10} (omega arith) {i = 0} (omega arith) in
    let g : IsDigitCount 10 1 (x / 10) (suc k) = (
      omega arith,
      (div-lt_iff_lt-mul {k = 10} (omega arith)).1 most,
      λ l. simp unary_clauses ((le-div_iff_mul-le {k = 10} (omega arith)).1 least),
    ) in
    let d : x % 10 < 10 = mod-lt x (omega arith) in
    rw (le-ltb x 10 (omega arith), glyph-ten (x % 10) d)
    (ap (λ (l : List ℕ). l ++ ((48 + x % 10) ∷ [])) (fewest-ten m k (x / 10) (omega arith) g))

-- what `io::decimal` writes of a number of 64 bits
pub told-decimal : (k x : ℕ) → x < 2 ^ 64 → IsDigitCount 10 1 x k → last_digits 10 k x ≡ decimal_of x
unfolding decimal_of
told-decimal zero x h f = absurd (omega (arith, f.0))
told-decimal (suc k) x h f = ⊎_elim
    (λ l.
    let most : 10 ^ 20 ≤ 10 ^ (suc k - 1) = pow-le-pow_right {n = 10} (omega arith) {i = 20} {j = suc k - 1} (omega arith) in
    absurd (omega (arith, f.2 (omega arith))))
    (λ l. fewest-ten 19 k x l f)
    (lt-or-le 19 k)

-- what `io::hex` writes of a number of 32 bits, asked for eight digits
pub told-eight : (k x : ℕ) → IsDigitCount 16 (min (max 8 1) 16) (x % 0x1_0000_0000) k → last_digits 16 k (x % 0x1_0000_0000) ≡ eight_of x
unfolding eight_of
told-eight k x f = ⊎_elim
    (λ h.
    let most : 16 ^ 8 ≤ 16 ^ (k - 1) = pow-le-pow_right {n = 16} (omega arith) {i = 8} {j = k - 1} (omega arith) in
    absurd (omega (arith, f.2 h, mod-lt x {m = 0x1_0000_0000} (omega arith))))
    (λ h. let e : k ≡ 8 = omega (arith, f.0) in rw e)
    (lt-or-le 8 k)
