-- A signed number of seconds that fits an unsigned number of 64 bits, and one that does not.
use Rattle.std.proofs.Common.{◌≡◌, ℕ, ◌<◌, ◌^◌, ℤ, pos, negsuc, nat_abs, refl, ap, sym, arith, w64}
use Rattle.std.specs.Int.{FitsUnsignedBits}
use mir.Val.{SFits}

pub seconds-are : (z : ℤ) (s : ℕ) → FitsUnsignedBits 64 z → s ≡ nat_abs z → z ≡ pos s
seconds-are (pos n) s f e = ap pos (sym e)
seconds-are (negsuc n) s f e = absurd f

pub earlier-is : (z : ℤ) → SFits w64 z → (FitsUnsignedBits 64 z → ⊥) → (n : ℕ) × (z ≡ negsuc n)
earlier-is (pos n) f not = let below : n < 2 ^ 64 = omega (arith, f) in absurd (not below)
earlier-is (negsuc n) f not = (n, refl)
