-- The node table as bytes: document 01, "The node table".
use Rattle.std.specs.Prelude.{List, [], ◌∷◌, ◌++◌, ℕ, ◌+◌, ◌*◌, ◌/◌, ◌≤◌, length, drop, get_or}
use Rattle.wire.specs.Number.{number, bytes}
use Rattle.node.specs.Forest.{Forest, nil, node, size}
use Rattle.node.specs.declared.record.Item.{Item}

-- the bytes of a record (Ticket 10: "every node record grows to 20 bytes")
abbrev pub record_size : ℕ
record_size = 20

-- the most records of a table that is encoded ("1 ≤ count ≤ 65,535")
abbrev pub most_records : ℕ
most_records = 65535

-- one record: kind (1 byte), three zero bytes, end (4), a (4), b (4), start (4)
unfoldable pub record_of : Item → ℕ → List ℕ
record_of item end =
    (item.kind ∷ 0 ∷ 0 ∷ 0 ∷ []) ++ (bytes 4 end ++ (bytes 4 item.a ++ (bytes 4 item.b ++ bytes 4 item.start)))

-- the records of a forest in preorder, the first of which has index i: a node's end is the index after all that it contains
unfoldable pub records_of : ℕ → Forest → List ℕ
records_of i nil = []
records_of i (node item inside rest) =
    record_of item (i + 1 + size inside) ++ (records_of (i + 1) inside ++ records_of (i + 1 + size inside) rest)

-- where record i begins: records stand one after another, with no header
abbrev pub record_start : ℕ → ℕ
record_start i = record_size * i

-- the kind of record i
unfoldable pub kind_at : List ℕ → ℕ → ℕ
kind_at t i = get_or t (record_start i) 0

-- the three bytes after the kind, as a number
unfoldable pub zeros_at : List ℕ → ℕ → ℕ
zeros_at t i = number 3 (drop (record_start i + 1) t)

-- the number of four bytes at place k of record i
unfoldable pub field_at : List ℕ → ℕ → ℕ → ℕ
field_at t i k = number 4 (drop (record_start i + k) t)

-- the end of record i
abbrev pub end_at : List ℕ → ℕ → ℕ
end_at t i = field_at t i 4

-- the field a of record i
abbrev pub a_at : List ℕ → ℕ → ℕ
a_at t i = field_at t i 8

-- the field b of record i
abbrev pub b_at : List ℕ → ℕ → ℕ
b_at t i = field_at t i 12

-- the fifth number of record i: the offset where its item's data begins
abbrev pub start_at : List ℕ → ℕ → ℕ
start_at t i = field_at t i 16

-- what record i says of its node
abbrev pub item_at : List ℕ → ℕ → Item
item_at t i = record { kind = kind_at t i; a = a_at t i; b = b_at t i; start = start_at t i }

-- "Capacity is now the length divided by 20", rounded down
abbrev pub capacity : List ℕ → ℕ
capacity table = length table / record_size

-- a table with a forest's records over its first bytes, the first of which has index i; later bytes are unchanged
unfoldable pub stored : ℕ → Forest → List ℕ → List ℕ
stored i f table = records_of i f ++ drop (record_size * size f) table

-- a table has room for a forest's records, the first of which has index i
pub record TableRoom (f : Forest) (i : ℕ) (table : List ℕ) : Type 0 where
  pub fits : record_size * size f ≤ length table
  pub low : i + size f ≤ most_records
