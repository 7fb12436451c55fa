-- The order's demand 2, the round trip: over the definitions that the contracts cite.
use Rattle.std.specs.Prelude.{◌≡◌, cond, List, ℕ, ◌%◌, ◌≤◌, ◌<◌, length, take, Ok}
use Rattle.wire.specs.Limits.{longest, deepest}
use Rattle.node.specs.Forest.{Forest, nil, node, depth}
use Rattle.node.specs.Records.{end_at, item_at, capacity}
use Rattle.node.specs.declared.record.Item.{Item}
use Rattle.framing.specs.Framing.{Whole, udp}
use Rattle.results.specs.Results.{Packets}
use Rattle.table.specs.Tree.{IsTree}
use Rattle.writers.specs.Osc.{write_packet}
use Rattle.encoder.specs.Outcome.{Outcome, Encodes, unframed}
use Rattle.calls.specs.Demands.{table_after, answer_to}
use Rattle.osc10.specs.Words.{Bytes, bytes_named, Clean}
use Rattle.given.specs.Encodable.{ranged_kind}

-- ---- the same tree, over two sources

-- a node over one source and over another: kind and numbers are equal, and a range is equal as bytes ("only their offsets may
-- differ")
pub record SameItem (source source' : List ℕ) (item item' : Item) : Type 0 where
  pub kinds : item.kind ≡ item'.kind
  pub seconds : item.b ≡ item'.b
  pub firsts : cond (ranged_kind item.kind) (bytes_named source item ≡ bytes_named source' item') (item.a ≡ item'.a)

-- two trees over two sources are the same: nesting is equal, and each node is
pub data Same (source source' : List ℕ) : Forest → Forest → Type 0 where
  none : Same source source' nil nil
  both : {item item' : Item} {f f' g g' : Forest} → SameItem source source' item item' → Same source source' f f'
      → Same source source' g g' → Same source source' (node item f g) (node item' f' g')

-- two tables of `count` records over two sources hold the same: ends are equal, and each record's node is
pub record SameTable (source t source' t' : List ℕ) (count : ℕ) : Type 0 where
  pub items : (i : ℕ) → i < count → SameItem source source' (item_at t i) (item_at t' i)
  pub ends : (i : ℕ) → i < count → end_at t i ≡ end_at t' i

-- ---- the round trip

-- a table that demand 2 speaks of: well formed, '/'-led and without NUL, of depth at most 64, and fitting 65,535 bytes
pub record Playable (t : List ℕ) (count : ℕ) (source : List ℕ) (item : Item) (inside : Forest) : Type 0 where
  pub bytes : Bytes t
  pub sourced : Bytes source
  pub formed : IsTree t count source item inside
  pub clean : Clean source (node item inside nil)
  pub shallow : depth (node item inside nil) ≤ deepest
  pub fits : length (write_packet source item inside) ≤ longest

-- what is played back: an encoder with room answers a multiple of four; its decoder, of what it wrote, depth 64 and room given,
-- answers the same count with nothing left and no dirty padding (Ticket 8), and the same table
pub record PlaysBack (rule : List ℕ → Whole) (t : List ℕ) (count : ℕ) (source out : List ℕ) (r : Outcome) (table : List ℕ) : Type 0 where
  pub n : ℕ
  pub written : r.answer ≡ Ok n
  pub multiple : n % 4 ≡ 0
  pub decoded : answer_to rule deepest (take n r.out) table ≡ Packets count 0 0
  pub same : SameTable source t (take n r.out) (table_after rule deepest (take n r.out) table) count

-- for every such table, any output and table with room, and whatever `encode` may answer by its contract
abbrev pub RoundTrip : Type 0
RoundTrip =
    (t : List ℕ) (count : ℕ) (source : List ℕ) (item : Item) (inside : Forest) → Playable t count source item inside
    → (out : List ℕ) → length (write_packet source item inside) ≤ length out → (r : Outcome) → Encodes unframed t count source out r
    → (table : List ℕ) → count ≤ capacity table
    → PlaysBack udp t count source out r table
