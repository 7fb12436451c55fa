-- What a writer adds to a line.
use Rattle.std.specs.Prelude.{◌≡◌, List, ◌++◌, ℕ, ◌≤◌, length, take}
use Rattle.io.specs.Counts.{IsPrefixLen}

-- the first r bytes of a slice are these
pub record FrontIs (bs out : List ℕ) (r : ℕ) : Type 0 where
  pub counts : IsPrefixLen r out
  pub is : take r out ≡ bs

-- room for the words of any refusal: their form has at most 120 bytes, each of which stands for at most 20
abbrev pub words_room : ℕ
words_room = 2400

-- bs stands after the first `at` bytes of a slice, which held o₀ and holds o, and ends at r; what has no room is left out
pub record PutAfter (bs : List ℕ) (at : ℕ) (o₀ o : List ℕ) (r : ℕ) : Type 0 where
  pub room : length o ≡ length o₀
  pub within : r ≤ length o₀
  pub left : take r o ≡ take (length o₀) (take at o₀ ++ bs)
