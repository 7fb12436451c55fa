-- The first octet of a character says how many octets it has, and a text holds its first character whole.
use mathlib.Core.Path.{◌≡◌, refl, ◌∙◌, ap}
use mathlib.Core.Bool.{true}
use mathlib.Core.List.{List, [], ◌∷◌}
use Prim.Native.Nat.{ℕ, suc, ◌≤◌, ◌<◌}
use native.Mathlib.Omega.{arith}
use borrow.Author.Tests.{lt-ltb, le-ltb}
use lib.ListN.{length, get_or, length-append}
use Rattle.utf8.specs.Utf8.{Range, In, chars, Among, here, there, Fit, end, next, Octets, none, char}
use Rattle.utf8.specs.Derive.{utf8}
use Rattle.utf8.specs.Lead.{lead_of}
use Rattle.utf8.proofs.Grammar.{octets}

-- the octets of each arm of `lead_of`
pub one : (x : ℕ) → x < 0x80 → 1 ≡ lead_of x
one x a = rw (lt-ltb x 0x80 a)

-- the octets of the second arm
pub two : (x : ℕ) → 0x80 ≤ x → x < 0xE0 → 2 ≡ lead_of x
two x a b = rw (le-ltb x 0x80 a, lt-ltb x 0xE0 b)

-- the octets of the third arm
pub three : (x : ℕ) → 0xE0 ≤ x → x < 0xF0 → 3 ≡ lead_of x
three x a b = rw (le-ltb x 0x80 (omega arith), le-ltb x 0xE0 a, lt-ltb x 0xF0 b)

-- the octets of the last arm
pub four : (x : ℕ) → 0xF0 ≤ x → 4 ≡ lead_of x
four x a = rw (le-ltb x 0x80 (omega arith), le-ltb x 0xE0 (omega arith), le-ltb x 0xF0 a)

-- the octets of a row's first range say by `lead_of` how long the row is
abbrev Leads : List Range → Type 0
Leads [] = ⊥
Leads (r ∷ row) = (x : ℕ) → In r x → suc (length row) ≡ lead_of x

-- so do those of each row of the grammar, in its order
each : {row : List Range} → Among row chars → Leads row
each here = λ x i. one x (omega arith)
each (there here) = λ x i. two x (omega arith) (omega arith)
each (there (there here)) = λ x i. three x (omega arith) (omega arith)
each (there (there (there here))) = λ x i. three x (omega arith) (omega arith)
each (there (there (there (there here)))) = λ x i. three x (omega arith) (omega arith)
each (there (there (there (there (there here))))) = λ x i. three x (omega arith) (omega arith)
each (there (there (there (there (there (there here)))))) = λ x i. four x (omega arith)
each (there (there (there (there (there (there (there here))))))) = λ x i. four x (omega arith)
each (there (there (there (there (there (there (there (there here)))))))) = λ x i. four x (omega arith)
each (there (there (there (there (there (there (there (there (there m))))))))) = elim m [ ]

-- octets that fit a row are as many as its ranges
fit_length : {row : List Range} {c : List ℕ} → Fit row c → length c ≡ length row
fit_length end = refl
fit_length (next i f) = ap suc (fit_length f)

-- the first octet of a character says how many it has
pub char-length : {row : List Range} {c : List ℕ} → Among row chars → Fit row c → length c ≡ lead_of (get_or c 0 0)
char-length m end = absurd (each m)
char-length m (next {x = x} i f) = ap suc (fit_length f) ∙ each m x i

-- a text that is not empty holds its first character whole
first_char : {w : List ℕ} → Octets w → 0 < length w → lead_of (get_or w 0 0) ≤ length w
first_char none h = absurd (omega arith)
first_char (char m end o) h = absurd (each m)
first_char (char {c = x ∷ c} {s = s} m (next i f) o) h =
    let e : length (x ∷ c) ≡ lead_of x = char-length m (next i f) in
    omega (arith, length-append (x ∷ c) s)

-- the first character of a text lies within it
pub lead-within : (w : List ℕ) → utf8 w ≡ true → 0 < length w → lead_of (get_or w 0 0) ≤ length w
lead-within w e h = first_char ((octets w).sound e) h
