-- A range of a slice: document 01, "The node table" (ranges lie in the source slice) and "Looking at a record" (that part of the packet).
use Rattle.std.specs.Prelude.{Bool, List, ℕ, ◌+◌, leb, length, take, drop}

-- n bytes of a slice from `offset` on
abbrev pub part : List ℕ → ℕ → ℕ → List ℕ
part s offset n = take n (drop offset s)

-- a range lies in a slice
abbrev pub inside : List ℕ → ℕ → ℕ → Bool
inside s offset n = leb (offset + n) (length s)
