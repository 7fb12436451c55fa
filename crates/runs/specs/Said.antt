-- What a run says, as the bytes that are put into a line before it is written.
use Rattle.std.specs.Prelude.{◌≡◌, ℕ, ◌≤◌, List, ◌++◌, length, take}
use Rattle.io.specs.Digits.{last_digits, IsDigitCount}

-- bs stands after the first at bytes of the line, and ends at end; what has no room is left out
pub record Adds (bs : List ℕ) (at : ℕ) (old : List ℕ) (end : ℕ) (new : List ℕ) : Type 0 where
  pub within : end ≤ length new
  pub same : length new ≡ length old
  pub said : take end new ≡ take (length old) (take at old ++ bs)

-- ds are the decimal digits of x, the fewest that hold it
pub record Decimal (x : ℕ) (ds : List ℕ) : Type 0 where
  pub fewest : IsDigitCount 10 1 x (length ds)
  pub spelled : ds ≡ last_digits 10 (length ds) x

-- the text and the decimal digits of x are added
pub record AddsCount (text : List ℕ) (x at : ℕ) (old : List ℕ) (end : ℕ) (new : List ℕ) : Type 0 where
  pub ds : List ℕ
  pub decimal : Decimal x ds
  pub added : Adds (text ++ ds) at old end new

-- a line of three texts, with the decimal digits of x after the first and those of y after the second
pub record SaysCounts (first : List ℕ) (x : ℕ) (second : List ℕ) (y : ℕ) (third old : List ℕ) (end : ℕ) (new : List ℕ) : Type 0 where
  pub ds : List ℕ
  pub es : List ℕ
  pub first_number : Decimal x ds
  pub second_number : Decimal y es
  pub added : Adds ((first ++ ds) ++ ((second ++ es) ++ third)) 0 old end new
