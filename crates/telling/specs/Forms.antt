-- A form: a text in which marks stand for numbers and for a text that is given with it.
use Rattle.std.specs.Prelude.{◌≡◌, cond, List, [], ◌∷◌, ◌++◌, ℕ, eqb, length, get_or, take, drop}
use Prim.Native.String.{String}
use Rattle.io.specs.Counts.{IsPrefixLen}
use Rattle.words.specs.Ascii.{ascii}
use Rattle.telling.specs.Decimal.{decimal_of, eight_of}

-- what a byte of a form stands for: % (37) the next number, $ (36) its eight lowest hexadecimal digits, ~ (126) the text, another itself
unfoldable pub piece_of : List ℕ → ℕ → ℕ → List ℕ
piece_of text x mark = cond (eqb mark 37) (decimal_of x) (cond (eqb mark 36) (eight_of x) (cond (eqb mark 126) text (mark ∷ [])))

-- how many numbers it takes
unfoldable pub taken_by : ℕ → ℕ
taken_by mark = cond (eqb mark 37) 1 (cond (eqb mark 36) 1 0)

-- a form with its marks filled in, from left to right
unfoldable pub filled_in : List ℕ → List ℕ → List ℕ → List ℕ
filled_in text numbers [] = []
filled_in text numbers (mark ∷ form) =
    piece_of text (get_or numbers 0 0) mark ++ filled_in text (drop (taken_by mark) numbers) form

-- the same of a quoted form
abbrev pub line : String → List ℕ → List ℕ → List ℕ
line form numbers text = filled_in text numbers (ascii form)

-- the first r bytes of a slice are a line, as much of it as the slice has room for
pub record Says (bytes out : List ℕ) (r : ℕ) : Type 0 where
  pub counts : IsPrefixLen r out
  pub says : take r out ≡ take (length out) bytes
