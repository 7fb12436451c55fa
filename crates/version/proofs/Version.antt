-- Every version is read back from its number.
use mathlib.Core.Path.{◌≡◌, refl}
use Prim.Native.Nat.{ℕ}
use native.Mathlib.Omega.{arith}
use Rattle.version.specs.Version.{packed, VersionsReadBack}

pub versions-read-back : VersionsReadBack
versions-read-back major minor patch a b c =
    record {
      major_back = omega (arith, a, b, c);
      minor_back = omega (arith, a, b, c);
      patch_back = omega (arith, a, b, c);
      nothing_above = omega (arith, a, b, c);
    }

-- 1.2.3, as include/osc.h has it
one-two-three : packed 1 2 3 ≡ 0x1_0002_0003
one-two-three = refl
