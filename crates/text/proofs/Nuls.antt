-- `until_nul` at a NUL; it counts no more bytes than there are, and none after the first NUL.
use mathlib.Core.Path.{◌≡◌, refl, ap}
use mathlib.Core.Bool.{Bool, true, false, cond}
use mathlib.Core.List.{List, [], ◌∷◌, ◌++◌}
use Prim.Native.Nat.{ℕ, suc, ◌<◌, ◌≤◌}
use native.Mathlib.Omega.{arith}
use borrow.Author.Tests.{eq-eqb}
use lib.Dec.{eqb}
use lib.ListN.{length, drop, get_or}
use lib.Seq.{drop-cons}
use Rattle.text.specs.Text.{until_nul}

-- a NUL stands here: no byte stands before it
pub nul-here : (l : List ℕ) (i : ℕ) → i < length l → get_or l i 0 ≡ 0 → until_nul (drop i l) ≡ 0
nul-here l i h e = rw (drop-cons l i 0, eq-eqb (get_or l i 0) 0 e)

-- a count that stops, or goes on by one, is at most one more
pub shorter : (t : Bool) {m n : ℕ} → m ≤ n → cond t 0 (suc m) ≤ suc n
shorter true h = omega arith
shorter false h = omega arith

-- no more bytes stand before the first NUL than there are
pub nul-le : (l : List ℕ) → until_nul l ≤ length l
nul-le [] = omega arith
nul-le (b ∷ l) = shorter (eqb b 0) (nul-le l)

-- a NUL that is there is the first one, whatever follows
pub nul-longer : (l more : List ℕ) → until_nul l < length l → until_nul (l ++ more) ≡ until_nul l
nul-longer [] more h = absurd (omega arith)
nul-longer (b ∷ l) more h = by-nul (eqb b 0) h (λ g. nul-longer l more g)
  where
    by-nul : (t : Bool) → cond t 0 (suc (until_nul l)) < suc (length l) → (until_nul l < length l → until_nul (l ++ more) ≡ until_nul l)
        → cond t 0 (suc (until_nul (l ++ more))) ≡ cond t 0 (suc (until_nul l))
    by-nul true g f = refl
    by-nul false g f = ap suc (f (omega arith))
