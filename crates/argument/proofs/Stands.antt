-- A part of the input, and the parts of that part.
use mathlib.Core.Path.{◌≡◌, ap, sym, ◌∙◌}
use mathlib.Core.List.{List, [], ◌++◌, append_assoc, append-nil}
use Prim.Native.Nat.{ℕ, ◌+◌, ◌<◌, ◌≤◌}
use native.Mathlib.Omega.{arith}
use lib.ListN.{length, take, drop, length-drop, length-replicate, replicate, take-append-drop}
use lib.Seq.{drop-drop, drop_at, take-append-le, drop-append-le}
use Rattle.text.specs.Text.{until_nul}
use Rattle.text.proofs.Nuls.{nul-longer}
use Rattle.argument.specs.CodeParts.{StandsAt}

-- the whole input stands at its start, and what is left of it after n bytes at n
pub stands-rest : (msg : List ℕ) (n : ℕ) → StandsAt msg n (drop n msg)
stands-rest msg n = ([], sym (append-nil (drop n msg)))

-- any bytes stand somewhere
pub stands-somewhere : (o : ℕ) (l : List ℕ) → StandsAt (replicate o 0 ++ l) o l
stands-somewhere o l = ([], drop_at (replicate o 0) l o (length-replicate o 0) ∙ sym (append-nil l))

module _ (msg : List ℕ) (o : ℕ) (l : List ℕ) (w : StandsAt msg o l) where
  -- what is left of a part
  pub stands-drop : (n : ℕ) → n ≤ length l → StandsAt msg (o + n) (drop n l)
  stands-drop n h = (w.0, sym (drop-drop n o msg) ∙ ap (drop n) w.1 ∙ drop-append-le n l w.0 h)

  -- the first bytes of a part
  pub stands-take : (n : ℕ) → StandsAt msg o (take n l)
  stands-take n =
      (drop n l ++ w.0, w.1 ∙ ap (λ (m : List ℕ). m ++ w.0) (sym (take-append-drop n l)) ∙ append_assoc (take n l) (drop n l) w.0)

  -- bytes of the part are bytes of the input
  pub stands-bytes : (k m : ℕ) → k + m ≤ length l → take m (drop (o + k) msg) ≡ take m (drop k l)
  unfolding stands-drop
  stands-bytes k m h =
      ap (take m) (stands-drop k (omega arith)).1 ∙ take-append-le m (drop k l) w.0 (omega (arith, length-drop k l))

-- what is left of a part after n bytes, by its position in the frame
pub stands_on : (base p : ℕ) (l msg : List ℕ) → StandsAt msg (base + p) l → (n : ℕ) → n ≤ length l
    → StandsAt msg (base + (p + n)) (drop n l)
stands_on base p l msg w n h =
    let sum : base + p + n ≡ base + (p + n) = omega arith in
    rw (← sum) (stands-drop msg (base + p) l w n h)

-- a text of the part ends where it ends in the input
pub stands-nul : (msg : List ℕ) (o : ℕ) (l : List ℕ) → StandsAt msg o l → until_nul l < length l → until_nul (drop o msg) ≡ until_nul l
stands-nul msg o l w h = ap until_nul w.1 ∙ nul-longer l w.0 h
