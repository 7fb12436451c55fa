-- What is equal to itself is no NaN.
use Rattle.std.proofs.Common.{◌≡◌, false, not, T, sym, ◌∙◌}
use mathlib.Core.Bool.{false≢true}
use lib.Ieee.{Float, nan, inf, fin, ne, is_nan}
use lib.Ieee.Compare.{nan_differs}

-- so its bits can be asked for
pub no_nan : (x : Float) → ne x x ≡ false → T (not (is_nan x))
unfolding is_nan
no_nan nan e = absurd (false≢true (sym e ∙ nan_differs))
no_nan (inf s) e = tt
no_nan (fin s m d) e = tt
