-- `padded` is the lowest multiple of 4 that is not below its argument.
use mathlib.Core.Path.{◌≡◌}
use Prim.Native.Nat.{ℕ, ◌+◌, ◌%◌, ◌<◌, ◌≤◌}
use native.Mathlib.Omega.{arith}
use Rattle.wire.specs.Pad.{padded}

-- what it is to be the next multiple of 4
pub record Next (x y : ℕ) : Type 0 where
  pub multiple : y % 4 ≡ 0
  pub reaches : x ≤ y
  pub near : y < x + 4

-- `padded` is a multiple of 4, not below x, and no lower one is
pub padded-next : (x : ℕ) → Next x (padded x)
padded-next x = record { multiple = omega arith; reaches = omega arith; near = omega arith }

-- and it is the only such number
pub next-is : (x y : ℕ) → Next x y → y ≡ padded x
next-is x y n = omega arith
