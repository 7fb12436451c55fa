-- A word and a table of words that a program has.
use Rattle.std.proofs.Common.{◌≡◌, ℕ, ◌<◌, ◌+◌, Bool, true, false, List, length, drop, sym, Bor, add-one, slice_index_or}
use Rattle.std.specs.Prelude.{Some, cond}
use Rattle.std.specs.Str.{bytes_eq}
use Rattle.std.proofs.lemmas.Slice.Eq.{bytes_eq-Decides}
use lib.Seq.{drop-cons}
use Rattle.wire.specs.Same.{same_bytes}
use Rattle.wire.proofs.Same.{is_same}
use Rattle.words.specs.Tables.{beside}

-- slices that are equal are the same bytes
pub equal-same : (a b : List ℕ) → bytes_eq a b ≡ same_bytes a b
equal-same a b = is_same (bytes_eq a b) a b (bytes_eq-Decides a b)

pub equal_turned : (a b : List ℕ) → bytes_eq a b ≡ same_bytes b a
equal_turned a b = let d = bytes_eq-Decides a b in is_same (bytes_eq a b) b a ((λ t. sym (d.0 t)), (λ e. d.1 (sym e)))

module _ {A : Type 0} (word : List ℕ) (rows : List (Bor (List ℕ) × A)) (i : ℕ) {row : Bor (List ℕ) × A} {r : Bool}
    (within : i < length rows) (is : row ≡ slice_index_or rows i row) (tests : r ≡ bytes_eq row.0.now word) where
  -- a row, by whether its word is the one that is meant
  beside-row : beside word (drop i rows) ≡ cond r (Some row.1) (beside word (drop (i + 1) rows))
  beside-row = rw (drop-cons rows i row within, ← is, tests, equal-same row.0.now word, add-one)

  pub beside-here : r ≡ true → beside word (drop i rows) ≡ Some row.1
  beside-here t = rw t at beside-row

  pub beside-next : r ≡ false → beside word (drop i rows) ≡ beside word (drop (i + 1) rows)
  beside-next t = rw t at beside-row
