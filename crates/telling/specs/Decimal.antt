-- A number as digits.
use Rattle.std.specs.Prelude.{cond, List, [], ◌∷◌, ◌++◌, ℕ, zero, suc, ◌+◌, ◌/◌, ◌%◌, ltb}
use Rattle.io.specs.Digits.{last_digits}

-- the decimal digits of a number that has at most k + 1 of them: the highest first, and no 0 before it
unfoldable pub decimal_by : ℕ → ℕ → List ℕ
decimal_by zero x = (48 + x) ∷ []
decimal_by (suc k) x = cond (ltb x 10) ((48 + x) ∷ []) (decimal_by k (x / 10) ++ ((48 + x % 10) ∷ []))

-- a number of 64 bits in decimal: it has at most 20 digits
unfoldable pub decimal_of : ℕ → List ℕ
decimal_of x = decimal_by 19 x

-- the eight lowest hexadecimal digits of a number
unfoldable pub eight_of : ℕ → List ℕ
eight_of x = last_digits 16 8 (x % 0x1_0000_0000)
