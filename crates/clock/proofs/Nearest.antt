-- The formulas of specs/Nearest.antt are the nearest, halves up, and nothing else is. What follows for a nanosecond value that goes there
-- and back, and for the carry.
use Rattle.std.proofs.Common.{◌≡◌, ℕ, ◌+◌, ◌-◌, ◌*◌, ◌^◌, ◌<◌, ◌≤◌, sym, ap, mul-le-mul_right, le_antisymm, arith}
use native.Mathlib.Decide.{dec_lt}
use Rattle.clock.specs.Nearest.{distance, Nearest, fraction_of, nanos_of, OneNearest, FractionNearest, NanosNearest}
use Rattle.clock.specs.Promises.{NoCarry}

-- a higher number of parts lies at least one part higher
one_more : (d : ℕ) {z y : ℕ} → z < y → z * d + d ≤ y * d
one_more d {z} {y} h = omega (arith, mul-le-mul_right d h)

module _ (from x to y h : ℕ) (even : from ≡ h + h) where
  -- y parts lie within half a part of x * to, the upper end left out
  abbrev Within : Type 0
  Within = (y * from ≤ x * to + h) × (x * to + h < y * from + from)

  near-lower : (z : ℕ) → Within → z < y → distance (y * from) (x * to) ≤ distance (z * from) (x * to)
  near-lower z w l = omega (arith, one_more from l)

  far-upper : (z : ℕ) → Within → y < z → distance (y * from) (x * to) < distance (z * from) (x * to)
  far-upper z w l = omega (arith, one_more from l)

  near-either : (z : ℕ) → Within → Dec (z < y) → Dec (y < z) → distance (y * from) (x * to) ≤ distance (z * from) (x * to)
  near-either z w (yes l) u = near-lower z w l
  near-either z w (no l) (yes u) = omega (arith, far-upper z w u)
  near-either z w (no l) (no u) =
      let e : z ≡ y = omega arith in
      omega (arith, ap (λ (n : ℕ). n * from) e)

  upper-either : (z : ℕ) → Within → distance (z * from) (x * to) ≡ distance (y * from) (x * to) → Dec (y < z) → z ≤ y
  upper-either z w e (yes u) = absurd (omega (arith, far-upper z w u))
  upper-either z w e (no u) = omega arith

  within-nearest : (most : ℕ) → y ≤ most → Within → Nearest most from x to y
  within-nearest most l w =
      record {
        in_range = l;
        closest = λ z _. near-either z w (dec_lt z y) (dec_lt y z);
        upper = λ z _ e. upper-either z w e (dec_lt y z);
      }

-- two that are nearest are one: each is as near as the other, so neither is the upper
nearest-only : (most from x to y z : ℕ) → Nearest most from x to y → Nearest most from x to z → z ≡ y
nearest-only most from x to y z n m =
    let same : distance (y * from) (x * to) ≡ distance (z * from) (x * to)
    = le_antisymm (n.closest z m.in_range) (m.closest y n.in_range) in
    le_antisymm (n.upper z m.in_range (sym same)) (m.upper y n.in_range same)

one-nearest : (most from x to y : ℕ) → Nearest most from x to y → OneNearest most from x to y
one-nearest most from x to y n = (n, λ z m. nearest-only most from x to y z n m)

-- the highest nanoseconds are 4 fractions below a full second: a carry on the way to a tag never happens
pub no_carry : NoCarry
no_carry nanos h = omega arith

-- a fraction is a full second at most
nanos-full : (fraction : ℕ) → fraction < 2 ^ 32 → nanos_of fraction ≤ 1_000_000_000
nanos-full fraction h = omega arith

-- nanoseconds become the nearest fraction, and no other is
pub fraction_nearest : FractionNearest
fraction_nearest most nanos m h =
    one-nearest most 1_000_000_000 nanos (2 ^ 32) (fraction_of nanos)
    (within-nearest 1_000_000_000 nanos (2 ^ 32) (fraction_of nanos) 500_000_000 (omega arith) most (omega (arith, no_carry nanos h))
    (omega arith))

-- a fraction becomes the nearest nanoseconds, and no others are
pub nanos_nearest : NanosNearest
nanos_nearest most fraction m h =
    one-nearest most (2 ^ 32) fraction 1_000_000_000 (nanos_of fraction)
    (within-nearest (2 ^ 32) fraction 1_000_000_000 (nanos_of fraction) (2 ^ 31) (omega arith) most (omega (arith, nanos-full fraction h))
    (omega arith))

-- no nanoseconds lie halfway between two fractions: "halves up" shows on the way back alone
pub no-half : (nanos f : ℕ) → nanos * 2 ^ 32 + 500_000_000 ≡ f * 1_000_000_000 → ⊥
no-half nanos f e = omega arith

-- "a nanosecond value returns unchanged"
pub nanos-return : (nanos : ℕ) → nanos < 1_000_000_000 → nanos_of (fraction_of nanos) ≡ nanos
nanos-return nanos h = omega arith

-- the two highest fractions round to a full second, and no other does
pub carry-high : (fraction : ℕ) → fraction < 2 ^ 32 → 2 ^ 32 - 2 ≤ fraction → nanos_of fraction ≡ 1_000_000_000
carry-high fraction h l = omega arith

pub carry-only : (fraction : ℕ) → fraction < 2 ^ 32 - 2 → nanos_of fraction < 1_000_000_000
carry-only fraction h = omega arith
