-- Bytes that are not zero: counted one by one, over parts, and none of them.
use mathlib.Core.Path.{◌≡◌, refl}
use mathlib.Core.Bool.{Bool, true, false, cond}
use mathlib.Core.List.{List, [], ◌∷◌, ◌++◌}
use Prim.Native.Nat.{ℕ, ◌+◌, ◌<◌, ◌≤◌}
use native.Mathlib.Nat.{zero-add}
use native.Mathlib.Numerals.{add-one}
use native.Mathlib.Omega.{arith}
use borrow.Author.Tests.{eq-eqb, ne_eqb}
use lib.Dec.{eqb}
use lib.ListN.{length, drop, get_or, drop_of_length-le}
use lib.Seq.{drop-cons}
use Rattle.text.specs.Text.{dirt_of_byte, non_zero}

-- a zero stands here: it is not counted
pub zero-here : (l : List ℕ) (i : ℕ) → i < length l → get_or l i 0 ≡ 0 → non_zero (drop i l) ≡ non_zero (drop (i + 1) l)
zero-here l i h e = rw (drop-cons l i 0, eq-eqb (get_or l i 0) 0 e, add-one, zero-add)

-- another byte stands here: one more than from the next on
pub dirt-here : (l : List ℕ) (i : ℕ) → i < length l → (get_or l i 0 ≡ 0 → ⊥) → non_zero (drop i l) ≡ 1 + non_zero (drop (i + 1) l)
dirt-here l i h e = rw (drop-cons l i 0, ne_eqb (get_or l i 0) 0 e, add-one)

-- past the end there is none
pub dirt-end : (l : List ℕ) (i : ℕ) → length l ≤ i → non_zero (drop i l) ≡ 0
dirt-end l i h = rw (drop_of_length-le l h)

at_most_one : (t : Bool) → cond t 0 1 ≤ 1
at_most_one true = omega arith
at_most_one false = omega arith

-- a byte counts for one at most
byte_low : (b : ℕ) → dirt_of_byte b ≤ 1
byte_low b = at_most_one (eqb b 0)

-- no more are counted than there are
pub dirt-le : (l : List ℕ) → non_zero l ≤ length l
dirt-le [] = omega arith
dirt-le (b ∷ l) = omega (arith, byte_low b, dirt-le l)

-- no bytes
pub dirt-none : (l : List ℕ) → length l ≡ 0 → non_zero l ≡ 0
dirt-none [] h = refl
dirt-none (a ∷ l) h = absurd (omega arith)

-- one byte
pub dirt-one : (l : List ℕ) → length l ≡ 1 → non_zero l ≡ dirt_of_byte (get_or l 0 0)
dirt-one [] h = absurd (omega arith)
dirt-one (a ∷ l) h = omega (arith, dirt-none l (omega arith))

-- two bytes
pub dirt-two : (l : List ℕ) → length l ≡ 2 → non_zero l ≡ dirt_of_byte (get_or l 0 0) + dirt_of_byte (get_or l 1 0)
dirt-two [] h = absurd (omega arith)
dirt-two (a ∷ l) h = omega (arith, dirt-one l (omega arith))

-- three bytes
pub dirt-three : (l : List ℕ) → length l ≡ 3
    → non_zero l ≡ dirt_of_byte (get_or l 0 0) + dirt_of_byte (get_or l 1 0) + dirt_of_byte (get_or l 2 0)
dirt-three [] h = absurd (omega arith)
dirt-three (a ∷ l) h = omega (arith, dirt-two l (omega arith))

-- two rows of bytes add up
pub dirt-join : (a b : List ℕ) → non_zero (a ++ b) ≡ non_zero a + non_zero b
dirt-join [] b = omega arith
dirt-join (x ∷ a) b = omega (arith, dirt-join a b)
