-- Counting the roots of a table.
use Rattle.std.specs.Prelude.{◌≡◌, List, ◌++◌, ℕ, ◌+◌, ◌≤◌, drop}
use Rattle.node.specs.Forest.{Forest, size}
use Rattle.node.specs.Records.{record_start, records_of, most_records}
use Rattle.outcomes.specs.Kept.{roots_of}

-- the trees f stand in a table from record i to record hi, and other bytes after them
pub record StandAt (t : List ℕ) (i hi : ℕ) (f : Forest) : Type 0 where
  pub more : List ℕ
  pub records : drop (record_start i) t ≡ records_of i f ++ more
  pub ends : i + size f ≡ hi
  pub few : hi ≤ most_records

-- r is the number of the trees that stand in a table's first records
abbrev pub CountsRoots : List ℕ → ℕ → ℕ → Type 0
CountsRoots t count r = (f : Forest) → StandAt t 0 count f → r ≡ roots_of f
