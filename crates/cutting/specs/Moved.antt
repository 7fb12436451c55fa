-- What "offsets moved by the bytes consumed" means: document 02, Ticket 14. Moved are the frame's offset, the field's, `a` of '/', 's' and
-- 'b', and the fifth number; `a` of other kinds is no offset and stays.
use Rattle.std.specs.Prelude.{◌≡◌, cond, List, ℕ, ◌+◌, ◌<◌}
use Rattle.node.specs.Forest.{Forest, nil, node}
use Rattle.node.specs.Records.{item_at, end_at}
use Rattle.node.specs.declared.record.Item.{Item}
use Rattle.framing.specs.Framing.{Whole, trees, waiting, refusal, stopped}
use Rattle.given.specs.Encodable.{ranged_kind}
-- a refusal is moved where its field is
pub use Rattle.refusal.specs.Refusal.{moved_refusal}

-- a node's own numbers k bytes further on: its fifth number is moved, and `a` where its kind has a range (Ticket 14)
abbrev pub moved_item : ℕ → Item → Item
moved_item k item =
    record { kind = item.kind; a = cond (ranged_kind item.kind) (k + item.a) item.a; b = item.b; start = k + item.start }

-- trees k bytes further on
unfoldable pub moved_forest : ℕ → Forest → Forest
moved_forest k nil = nil
moved_forest k (node item inside rest) = node (moved_item k item) (moved_forest k inside) (moved_forest k rest)

-- a list k bytes further on; how many bytes are left of it does not change
abbrev pub moved_whole : ℕ → Whole → Whole
moved_whole k (trees f left) = trees (moved_forest k f) left
moved_whole k waiting = waiting
moved_whole k (refusal r) = refusal (moved_refusal k r)
moved_whole k (stopped f left why at) = stopped (moved_forest k f) left (moved_refusal k why) (k + at)

-- n records of a table t' from `count` on are those of t from its first on, k bytes further on: "offsets moved by the bytes consumed and
-- ends by the records given" (Ticket 14)
pub record MovedRecords (k count n : ℕ) (t t' : List ℕ) : Type 0 where
  pub items : (i : ℕ) → i < n → item_at t' (count + i) ≡ moved_item k (item_at t i)
  pub ends : (i : ℕ) → i < n → end_at t' (count + i) ≡ count + end_at t i
