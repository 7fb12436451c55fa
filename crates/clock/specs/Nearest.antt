-- Nanoseconds and fractions of a second: document 02, Ticket 7, "Nanoseconds become the nearest of 2^32 fractions, halves up, in whole
-- numbers, and back". `Nearest` is that sentence; proofs/Nearest.antt shows that the two formulas are what it says.
use Rattle.std.specs.Prelude.{◌≡◌, ℕ, ◌+◌, ◌-◌, ◌*◌, ◌/◌, ◌^◌, ◌<◌, ◌≤◌}

-- how far two numbers lie from each other
abbrev pub distance : ℕ → ℕ → ℕ
distance a b = (a - b) + (b - a)

-- x of the `from` parts of a second become y of its `to` parts: of the numbers 0 to `most` none is nearer, and of two that are equally
-- near y is the upper. y / to and x / from are compared as y * from and x * to
pub record Nearest (most from x to y : ℕ) : Type 0 where
  pub in_range : y ≤ most
  pub closest : (z : ℕ) → z ≤ most → distance (y * from) (x * to) ≤ distance (z * from) (x * to)
  pub upper : (z : ℕ) → z ≤ most → distance (z * from) (x * to) ≡ distance (y * from) (x * to) → z ≤ y

-- nanoseconds as fractions: 2^32, a full second, would be a carry
abbrev pub fraction_of : ℕ → ℕ
fraction_of nanos = (nanos * 2 ^ 32 + 500_000_000) / 1_000_000_000

-- a fraction as nanoseconds: 10^9, a full second, is a carry
abbrev pub nanos_of : ℕ → ℕ
nanos_of fraction = (fraction * 1_000_000_000 + 2 ^ 31) / 2 ^ 32

-- y is the nearest, and the only one
abbrev pub OneNearest : (most from x to y : ℕ) → Type 0
OneNearest most from x to y = Nearest most from x to y × ((z : ℕ) → Nearest most from x to z → z ≡ y)

-- "Nanoseconds become the nearest of 2^32 fractions, halves up": of 0 to 2^32 - 1, and of any range that goes on from there
abbrev pub FractionNearest : Type 0
FractionNearest =
    (most nanos : ℕ) → 2 ^ 32 - 1 ≤ most → nanos < 1_000_000_000 → OneNearest most 1_000_000_000 nanos (2 ^ 32) (fraction_of nanos)

-- "and back": of 0 to 10^9 nanoseconds, the full second among them, and of any range that goes on from there
abbrev pub NanosNearest : Type 0
NanosNearest =
    (most fraction : ℕ) → 1_000_000_000 ≤ most → fraction < 2 ^ 32 → OneNearest most (2 ^ 32) fraction 1_000_000_000 (nanos_of fraction)
