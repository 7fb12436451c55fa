-- What a difference of tags is, for all tags below 2^64; and what the machine reads from 64 bits as signed.
use Rattle.std.proofs.Common.{◌≡◌, ℕ, suc, ◌+◌, ◌-◌, ◌%◌, ◌^◌, ◌<◌, ◌≤◌, ap, arith, w64, to_z, le-ltb, lt-ltb}
use native.Mathlib.Decide.{dec_lt}
use Rattle.clock.specs.Shift.{signed_of, bits_of, OppositeLowest, DifferenceShifts}

-- a number read as signed is what the machine reads from its 64 bits
pub signed_low : (x : ℕ) → x < 2 ^ 63 → to_z w64 x ≡ signed_of x
signed_low x h = rw (lt-ltb x (2 ^ 63) h)

pub signed_high : (x : ℕ) → 2 ^ 63 ≤ x → x < 2 ^ 64 → to_z w64 x ≡ signed_of x
signed_high x l h =
    let e : 2 ^ 64 - x ≡ suc (2 ^ 64 - suc x) = omega arith in
    rw (le-ltb x (2 ^ 63) l, e)

signed-either : (x : ℕ) → x < 2 ^ 64 → Dec (x < 2 ^ 63) → to_z w64 x ≡ signed_of x
signed-either x h (yes l) = signed_low x l
signed-either x h (no l) = signed_high x (omega arith) h

pub signed_is : (x : ℕ) → x < 2 ^ 64 → to_z w64 x ≡ signed_of x
signed_is x h = signed-either x h (dec_lt x (2 ^ 63))

-- "tags exactly 2^63 apart give the lowest one"
pub opposite_lowest : OppositeLowest
opposite_lowest tag old h k e =
    let half : (tag + (2 ^ 64 - old)) % 2 ^ 64 ≡ 2 ^ 63 = omega arith in
    ap signed_of half

-- the bits of a number read as signed are the number
bits-low : (x : ℕ) → x < 2 ^ 63 → bits_of (signed_of x) ≡ x
bits-low x h = rw (lt-ltb x (2 ^ 63) h)

bits-high : (x : ℕ) → 2 ^ 63 ≤ x → x < 2 ^ 64 → bits_of (signed_of x) ≡ x
bits-high x l h =
    let e : 2 ^ 64 - x ≡ suc (2 ^ 64 - suc x) = omega arith in
    rw (le-ltb x (2 ^ 63) l, e) (omega arith)

bits-either : (x : ℕ) → x < 2 ^ 64 → Dec (x < 2 ^ 63) → bits_of (signed_of x) ≡ x
bits-either x h (yes l) = bits-low x l
bits-either x h (no l) = bits-high x (omega arith) h

pub bits_back : (x : ℕ) → x < 2 ^ 64 → bits_of (signed_of x) ≡ x
bits_back x h = bits-either x h (dec_lt x (2 ^ 63))

-- an old tag that is shifted by its difference to a new tag is the new tag
pub difference_shifts : DifferenceShifts
difference_shifts tag old h k =
    let d = (tag + (2 ^ 64 - old)) % 2 ^ 64 in
    omega (arith, bits_back d (omega arith))
