-- What is decoded can be read without testing it again, and encoded: over the definitions that the contracts cite.
use Rattle.std.specs.Prelude.{◌≡◌, Bool, true, List, [], ◌∷◌, ℕ, ◌+◌, ◌*◌, ◌≤◌, ◌<◌, length}
use Rattle.utf8.specs.Utf8.{Octets}
use Rattle.node.specs.Forest.{Forest, nil, node}
use Rattle.node.specs.Tags.{message_kind, bundle_kind, among, is_scalar}
use Rattle.node.specs.Records.{record_size, most_records, zeros_at, item_at}
use Rattle.node.specs.declared.record.Item.{Item}
use Rattle.framing.specs.Framing.{trees, rule_of}
use Rattle.edition.specs.declared.Framing.{Framing}
use Rattle.answering.specs.Limits.{forest_of}
use Rattle.results.specs.Results.{Packets}
use Rattle.table.specs.Formed.{WellFormed}
use Rattle.table.specs.Tree.{Spans, Obeys}
use Rattle.calls.specs.Words.{Gives}
use Rattle.calls.specs.Demands.{table_after, answer_to}
use Rattle.osc10.specs.Words.{Bytes, bytes_named}

-- a kind whose two numbers are a range: address, blob, text
abbrev pub ranged_kind : ℕ → Bool
ranged_kind kind = among kind (message_kind ∷ 98 ∷ 115 ∷ [])

-- what a node's reader need not test: an address, text or blob lies in the source, the first two are UTF-8 by RFC 3629's grammar, and c
-- holds a scalar number
pub record Reliable (source : List ℕ) (item : Item) : Type 0 where
  pub lies : ranged_kind item.kind ≡ true → item.a + item.b ≤ length source
  pub valid : among item.kind (message_kind ∷ 115 ∷ []) ≡ true → Octets (bytes_named source item)
  pub scalar : item.kind ≡ 99 → is_scalar item.a ≡ true

-- ---- what is decoded can be read without testing it again: the records of any number of packets

-- the table's records are those of trees, each of which may stand in a bundle, and every record can be relied on
pub record AreTrees (t : List ℕ) (count : ℕ) (source : List ℕ) (f : Forest) : Type 0 where
  pub spans : Spans t 0 count f
  pub obeys : Obeys source bundle_kind f
  pub few : count ≤ most_records
  pub fits : record_size * count ≤ length t
  pub zeros : (i : ℕ) → i < count → zeros_at t i ≡ 0
  pub reliable : (i : ℕ) → i < count → Reliable source (item_at t i)

-- every answer with records, of one packet or of a list of any length, leaves such records over the call's input
abbrev pub GivesTrees : Framing → Type 0
GivesTrees framing =
    (msg : List ℕ) → Bytes msg → (limit : ℕ) (table : List ℕ) (count dirty : ℕ)
    → Gives (answer_to (rule_of framing limit) limit msg table) count dirty
    → AreTrees (table_after (rule_of framing limit) limit msg table) count msg (forest_of (rule_of framing limit msg))

-- ---- what is decoded can be encoded: a table answered for one packet is well formed over the call's input
abbrev pub Encodable : Framing → Type 0
Encodable framing =
    (msg : List ℕ) → Bytes msg → (limit : ℕ) (table : List ℕ) (item : Item) (inside : Forest) (left count dirty : ℕ)
    → rule_of framing limit msg ≡ trees (node item inside nil) left
    → answer_to (rule_of framing limit) limit msg table ≡ Packets count left dirty
    → WellFormed (table_after (rule_of framing limit) limit msg table) count msg
