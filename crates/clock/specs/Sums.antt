-- Shifts must add up: document 02, Ticket 13, for all tags and amounts below 2^64.
use Rattle.std.specs.Prelude.{◌≡◌, ℕ, ◌+◌, ◌%◌, ◌^◌, ◌<◌}
use Rattle.clock.specs.Shift.{shifted, signed_of, difference_of}

-- "by zero changes nothing"
abbrev pub ByZero : Type 0
ByZero = (tag : ℕ) → tag < 2 ^ 64 → shifted tag 0 ≡ tag

-- "by x then y equals by x + y modulo 2^64"
abbrev pub ByTwo : Type 0
ByTwo = (tag x y : ℕ) → shifted (shifted tag x) y ≡ shifted tag ((x + y) % 2 ^ 64)

-- "by x and then its opposite returns the tag": the opposite is what x and it make 0 of
abbrev pub AndBack : Type 0
AndBack = (tag x y : ℕ) → tag < 2 ^ 64 → shifted x y ≡ 0 → shifted (shifted tag x) y ≡ tag

-- "the difference of the shifted tag from the old one is x read as signed"
abbrev pub DifferenceOfShift : Type 0
DifferenceOfShift = (tag x : ℕ) → tag < 2 ^ 64 → x < 2 ^ 64 → difference_of (shifted tag x) tag ≡ signed_of x

-- "The immediate tag (0, 1) is a plain number here and is shifted like the rest"
abbrev pub ImmediateShifted : Type 0
ImmediateShifted = (x : ℕ) → shifted 1 x ≡ (x + 1) % 2 ^ 64
