-- Document 02, Ticket 4: what one reading of a table has to find before a byte is written. The words are those of Tree.antt of `table`, and
-- of Osc.antt of `writers`.
use Rattle.std.specs.Prelude.{◌≡◌, List, ℕ, ◌+◌, ◌≤◌, length}
use Rattle.wire.specs.Limits.{deepest}
use Rattle.node.specs.Forest.{Forest, nil, node, depth}
use Rattle.node.specs.Records.{item_at}
use Rattle.table.specs.Tree.{IsTree}
use Rattle.writers.specs.Osc.{longest_element, write_packet}

-- what is answered in the place of a length where the reading is not sure
abbrev pub unsure : ℕ
unsure = longest_element + 1

-- there is a right forest, and this is its length
pub record Sized (Right : Forest → Type 0) (length_of : Forest → ℕ) (n : ℕ) : Type 0 where
  pub forest : Forest
  pub right : Right forest
  pub sized : length_of forest ≡ n

-- a reading that is sure, and answers at most 65,539, exactly where there is a right forest that is no longer; then it answers its length
pub record Exactly (Right : Forest → Type 0) (length_of : Forest → ℕ) (r : ℕ) : Type 0 where
  pub sure : r ≤ longest_element → Sized Right length_of r
  pub only : (F : Forest) → Right F → length_of F ≤ longest_element → r ≤ longest_element

-- the table is well formed (refusal 11), with this content of its first record, and at most 64 deep (refusal 9)
pub record ShallowTree (t : List ℕ) (count : ℕ) (source : List ℕ) (inside : Forest) : Type 0 where
  pub tree : IsTree t count source (item_at t 0) inside
  pub shallow : depth (node (item_at t 0) inside nil) ≤ deepest

-- the contract of `survey`: it is sure exactly if the table is well formed, at most 64 deep and its packet at most 65,535 bytes, and then
-- answers the packet's length as an element, its size counted; of any other table it answers `unsure` (Ticket 4)
pub record Surveys (t : List ℕ) (count : ℕ) (source : List ℕ) (r : ℕ) : Type 0 where
  pub exact : Exactly (ShallowTree t count source) (λ inside. 4 + length (write_packet source (item_at t 0) inside)) r
  pub most : r ≤ unsure
