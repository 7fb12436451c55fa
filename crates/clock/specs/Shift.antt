-- Shifts of tags and their differences: document 02, Ticket 7. Every number is below 2^64.
use Rattle.std.specs.Prelude.{◌≡◌, ℕ, suc, ◌+◌, ◌-◌, ◌%◌, ◌^◌, ◌<◌, cond, ℤ, pos, negsuc, neg_ℤ, nat_lt}
use Rattle.clock.specs.Nearest.{distance}

-- "shifting a tag by a 64-bit amount, modulo 2^64"
abbrev pub shifted : ℕ → ℕ → ℕ
shifted tag by = (tag + by) % 2 ^ 64

-- 64 bits as a signed number: below 2^63 the number itself, from there on minus what is left to 2^64
abbrev pub signed_of : ℕ → ℤ
signed_of x = cond (nat_lt x (2 ^ 63)) (pos x) (neg_ℤ (pos (2 ^ 64 - x)))

-- "differences are taken around the wrap as a signed 64-bit number"
abbrev pub difference_of : ℕ → ℕ → ℤ
difference_of tag old = signed_of ((tag + (2 ^ 64 - old)) % 2 ^ 64)

-- the 64 bits of a signed number
abbrev pub bits_of : ℤ → ℕ
bits_of (pos n) = n
bits_of (negsuc n) = 2 ^ 64 - suc n

-- "tags exactly 2^63 apart give the lowest one"
abbrev pub OppositeLowest : Type 0
OppositeLowest =
    (tag old : ℕ) → tag < 2 ^ 64 → old < 2 ^ 64 → distance tag old ≡ 2 ^ 63 → difference_of tag old ≡ negsuc (2 ^ 63 - 1)

-- the difference is what an old tag is to be shifted by to give the new one
abbrev pub DifferenceShifts : Type 0
DifferenceShifts = (tag old : ℕ) → tag < 2 ^ 64 → old < 2 ^ 64 → shifted old (bits_of (difference_of tag old)) ≡ tag
