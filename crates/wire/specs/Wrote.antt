-- What a writer leaves in the slice that it was lent: document 01, "written from the current position of the output onward".
use Rattle.std.specs.Prelude.{◌≡◌, ℕ, ◌≤◌, List, ◌++◌, length, drop}

-- the slice held o₀ and holds o: bs stands over its first bytes, and the later ones are unchanged
pub record Wrote (bs o₀ o : List ℕ) : Type 0 where
  pub room : length bs ≤ length o₀
  pub left : o ≡ bs ++ drop (length bs) o₀

-- the same, where the writer answers how many bytes it wrote
pub record Filled (bs o₀ o : List ℕ) (answer : ℕ) : Type 0 where
  pub count : answer ≡ length bs
  pub wrote : Wrote bs o₀ o
