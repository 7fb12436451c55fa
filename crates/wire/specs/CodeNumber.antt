-- Describes code, and no part of the document: numbers whose lowest byte comes first, as the processor loads them.
use Rattle.std.specs.Prelude.{◌≡◌, List, ℕ, ◌+◌, ◌*◌, ◌/◌, ◌%◌, get_or}

-- the four bytes of x are those of a list from `at` on, the lowest first
pub record LowFirst (s : List ℕ) (at x : ℕ) : Type 0 where
  pub lowest : x % 256 ≡ get_or s at 0
  pub second : x / 256 % 256 ≡ get_or s (at + 1) 0
  pub third : x / 65536 % 256 ≡ get_or s (at + 2) 0
  pub highest : x / 16777216 ≡ get_or s (at + 3) 0

-- the number of the four bytes of x, the lowest of which stands highest
abbrev pub high_first : ℕ → ℕ
high_first x = ((x % 256 * 256 + x / 256 % 256) * 256 + x / 65536 % 256) * 256 + x / 16777216
