-- Describes code, and no part of the document: what the second reading of a packet answers and leaves in a table that has room.
-- A position that is answered is the one after the last byte that was read.
use Rattle.std.specs.Prelude.{◌≡◌, List, ℕ, ◌+◌, ◌≤◌, None}
use Rattle.node.specs.Forest.{Forest, nil, node, size}
use Rattle.node.specs.Records.{stored}
use Rattle.packet.specs.Packet.{Out, fault, one}
use Rattle.fill.specs.Results.{Reread, Wrote}

-- the tree that is written: none of a packet that is refused
abbrev pub tree_of : Out → Forest
tree_of (fault k) = nil
tree_of (one item inside used) = node item inside nil

-- what the second reading of a packet at position p answers
abbrev pub reread : ℕ → Out → Reread
reread p (fault k) = None
reread p (one item inside used) = Wrote (1 + size inside) (p + used)

-- a packet at position p was written to a table, from index i on
pub record Fills (o : Out) (p i : ℕ) (before : List ℕ) (answer : Reread) (after : List ℕ) : Type 0 where
  pub answered : answer ≡ reread p o
  pub table : after ≡ stored i (tree_of o) before

-- the packet is not refused
abbrev pub PacketAccepted : Out → Type 0
PacketAccepted (fault k) = ⊥
PacketAccepted (one item inside used) = Unit {0}

-- what is known of a packet once it was measured: it is accepted, and gives so many records
pub record Known (o : Out) (count : ℕ) : Type 0 where
  pub some : 1 ≤ count
  pub records : size (tree_of o) ≡ count

-- an accepted packet was written to a table, from index i on, and has so many records
pub record WritesAccepted (o : Out) (i : ℕ) (before : List ℕ) (count : ℕ) (after : List ℕ) : Type 0 where
  pub known : Known o count
  pub table : after ≡ stored i (tree_of o) before
