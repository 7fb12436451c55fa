-- The tree of a table: document 01, "The node table", as one tree that obeys the containment rules.
use Rattle.std.specs.Prelude.{◌≡◌, true, List, ℕ, ◌+◌, ◌*◌, ◌^◌, ◌≤◌, ◌<◌, length}
use Rattle.node.specs.Forest.{Forest, nil, node}
use Rattle.node.specs.Tags.{bundle_kind}
use Rattle.node.specs.Records.{record_size, most_records, zeros_at, end_at, item_at}
use Rattle.node.specs.Rules.{own_rules}
use Rattle.node.specs.declared.record.Item.{Item}
use Rattle.table.specs.Formed.{range_ok, allowed}

-- the records lo to hi - 1 are the nodes of a forest in preorder, with their ends
unfoldable pub Spans : List ℕ → ℕ → ℕ → Forest → Type 0
Spans t lo hi nil = lo ≡ hi
Spans t lo hi (node item inside rest) =
    (item_at t lo ≡ item) × Spans t (lo + 1) (end_at t lo) inside × Spans t (end_at t lo) hi rest

-- every node of a forest in a container obeys its own rules and its range's, and may stand where it does
unfoldable pub Obeys : List ℕ → ℕ → Forest → Type 0
Obeys source container nil = Unit {0}
Obeys source container (node item inside rest) =
    (own_rules item ≡ true) × (range_ok source item ≡ true) × (allowed container item.kind ≡ true)
    × Obeys source item.kind inside × Obeys source container rest

-- the table's records are those of one tree, which may stand in a bundle
pub record IsTree (t : List ℕ) (count : ℕ) (source : List ℕ) (item : Item) (inside : Forest) : Type 0 where
  pub spans : Spans t 0 count (node item inside nil)
  pub obeys : Obeys source bundle_kind (node item inside nil)
  pub few : count ≤ most_records
  pub fits : record_size * count ≤ length t
  pub zeros : (i : ℕ) → i < count → zeros_at t i ≡ 0

-- some forest stands at the records lo to hi - 1, which lie in the table: what a reader of a part of a table is given
pub record Row (t : List ℕ) (lo hi : ℕ) : Type 0 where
  pub forest : Forest
  pub spans : Spans t lo hi forest
  pub table : record_size * hi ≤ length t

-- the fields a and b and the start of every node fit the four bytes of a record
unfoldable pub FieldsFit : Forest → Type 0
FieldsFit nil = Unit {0}
FieldsFit (node item inside rest) =
    (item.a < 256 ^ 4) × (item.b < 256 ^ 4) × (item.start < 256 ^ 4) × FieldsFit inside × FieldsFit rest
