-- A word read as a number, a byte at a time.
use Rattle.std.specs.Prelude.{Option, Some, None}
use mathlib.Core.Path.{◌≡◌, refl}
use mathlib.Core.List.{List, [], ◌∷◌}
use Prim.Native.Nat.{ℕ, ◌+◌, ◌<◌}
use native.Mathlib.Numerals.{add-one}
use native.Mathlib.Omega.{arith}
use lib.ListN.{length, drop, get_or}
use lib.Seq.{drop-cons, drop-length}
use Rattle.words.specs.Numeral.{one_more, all_more, numeral_of}

-- no bytes, no number
pub none_read : (word : List ℕ) → length word ≡ 0 → numeral_of word ≡ None
unfolding numeral_of
none_read [] h = refl
none_read (byte ∷ word) h = absurd (omega arith)

-- where there are bytes, they are read from the first on
pub some_read : (word : List ℕ) → 0 < length word → numeral_of word ≡ all_more word (Some 0)
unfolding numeral_of
some_read [] h = absurd (omega arith)
some_read (byte ∷ word) h = refl

-- no byte makes a number of what is none
pub still_none : (word : List ℕ) → all_more word None ≡ None
unfolding all_more
still_none [] = refl
still_none (byte ∷ word) = still_none word

module _ (word : List ℕ) (i : ℕ) (x : Option ℕ) where
  -- the byte at i, and then the rest
  pub byte-read : i < length word → all_more (drop i word) x ≡ all_more (drop (i + 1) word) (one_more x (get_or word i 0))
  unfolding all_more
  byte-read h = rw (add-one, drop-cons word i 0)

  -- all bytes are read
  pub all_read : i ≡ length word → all_more (drop i word) x ≡ x
  unfolding all_more
  all_read h = rw (h, drop-length)
